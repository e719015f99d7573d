-- The classes of objects, as an image says them.
use Rattle.std.specs.Prelude.{ℕ, List}
use Rattle.built_in.specs.declared.class_id.ClassId.{ClassId}

pub data ImageClass : Type 0 where
  -- one that is given or built in, or an array class that its elements' type says
  Known : ClassId → ImageClass
  -- An array class whose elements are of a class that is neither given nor built in: its dimensions, and the name of
  -- that class as class files spell it.
  UnknownArray : ℕ → List ℕ → ImageClass
