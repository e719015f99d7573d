pub mod BuildLemmas
pub mod RefusalLemmas
pub mod OneSettledLemmas
pub mod OneFaultLemmas
pub mod HasCutLemmas
pub mod BuiltOrFaultLemmas
