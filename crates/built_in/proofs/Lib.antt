pub mod ClassNameLemmas
pub mod MethodsLemmas
