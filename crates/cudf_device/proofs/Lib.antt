pub mod AnswerLemmas
pub mod CallLemmas
pub mod CommonLemmas
pub mod InputsLemmas
pub mod OutputLemmas
pub mod PaperLemmas
