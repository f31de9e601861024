use Rattle.cudf_text.specs.Promises.Views.{text_view}
use Rattle.cudf_document.proofs.solution.read_solution.Goals as goal

pub returns : goal.returns
returns c =
    let stanzas = (text_view c.args.text.now).stanzas in
    let is = c.in_ok-proposed.ensures.installed in
    let of = c.in_ok-solution_of.ensures in
    record {
      sound = c.in_ok-proposed.ensures.sound;
      status = of.status stanzas is;
      within = of.within stanzas is;
      unknown = of.unknown stanzas is;
      ascending = of.ascending stanzas is;
      outside = of.outside stanzas is;
      fault = tt;
    }
