pub mod EscapesLemmas
pub mod CountsLemmas
pub mod PagesLemmas
