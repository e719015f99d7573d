-- The name and the descriptor of a member, as the bytes of a class file (JVMS 4.4.6).
use Rattle.std.specs.Prelude.{ℕ, List}

pub record NameAndType : Type 0 where
  pub name : List ℕ
  pub descriptor : List ℕ
