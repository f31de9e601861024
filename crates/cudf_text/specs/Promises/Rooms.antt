-- The texts in a room, which are no parts of a source.
use Rattle.std.specs.Prelude.{ℕ, List, [], ◌++◌, map, string_bytes}
use Rattle.cudf_text.specs.declared.source.Room.{Room, Room', Held-Room-more, None', Some'}

-- the texts of a room: its own, and those of the room after it
abbrev mutual
  pub held : Room → List (List ℕ)
  held (Room' texts more) = map string_bytes texts.items ++ held_behind more

  pub held_behind : Held-Room-more → List (List ℕ)
  held_behind None' = []
  held_behind (Some' p room) = held room
