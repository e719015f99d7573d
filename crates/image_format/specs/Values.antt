-- Values as an image says them: a string is its 16-bit units.
use Rattle.std.specs.Prelude.{ℕ, ℤ, List}

-- A value of a static field, of a slot or of an element.
pub data ImageValue : Type 0 where
  Null : ImageValue
  -- of boolean, byte, char, short or int
  Int : ℤ → ImageValue
  Long : ℤ → ImageValue
  Text : List ℕ → ImageValue
  -- a reference to an object of a class's region, by the class's number and the object's
  Object : ℕ → ℕ → ImageValue
  -- what `System.out` holds
  Out : ImageValue
