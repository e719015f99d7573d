-- What belongs to one class that is initialized, as an image says it.
use Rattle.std.specs.Prelude.{ℕ, List}
use Rattle.image_format.specs.Values.{ImageValue}
use Rattle.image_format.specs.Classes.{ImageClass}

-- An instance with its slots, or an array with its elements. Monitors are free in an image.
pub record ImageObject : Type 0 where
  pub class : ImageClass
  pub slots : List ImageValue

-- an object that is kept, and its number
pub record KeptObject : Type 0 where
  pub number : ℕ
  pub object : ImageObject

-- How many objects its initializer made, the values of its static fields, and the objects that are kept, by ascending
-- numbers.
pub record ImageRegion : Type 0 where
  pub count : ℕ
  pub statics : List ImageValue
  pub objects : List KeptObject
