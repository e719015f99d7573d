-- Values (JVMS 2.2 to 2.4), their names and the places that they take.
use Rattle.std.specs.Prelude.{◌≡◌, ℕ, ℤ, Bool, true, false, Option, Some, None}
use Rattle.vm_state.specs.declared.value.Value.{Value}
use Rattle.vm_state.specs.declared.value.Value.TheVariants.{Int, Long, Null, Text, OfClass, OfThread, Out}
use Rattle.vm_state.specs.declared.value.Name.{Name}
use Rattle.vm_state.specs.declared.value.Maker.{Maker}
use Rattle.vm_state.specs.declared.value.Maker.TheVariants.{Class, Thread}

abbrev pub value_by : Maker → ℕ → Value
value_by (Class c) n = OfClass c n
value_by (Thread t) n = OfThread t n

-- a reference to the object of a name
abbrev pub value_of : Name → Value
value_of name = value_by name.maker name.number

-- the object that a value refers to
abbrev pub name_of : Value → Option Name
name_of (OfClass c n) = Some (record { maker = Class c; number = n })
name_of (OfThread t n) = Some (record { maker = Thread t; number = n })
name_of (Int n) = None
name_of (Long n) = None
name_of Null = None
name_of (Text s) = None
name_of Out = None

-- how many places a value takes (JVMS 2.6.1, 2.6.2)
abbrev pub places : Value → ℕ
places (Long n) = 2
places (Int n) = 1
places Null = 1
places (Text s) = 1
places (OfClass c n) = 1
places (OfThread t n) = 1
places Out = 1

-- the number of an int
abbrev pub int_of : Option Value → Option ℤ
int_of None = None
int_of (Some (Int n)) = Some n
int_of (Some (Long n)) = None
int_of (Some Null) = None
int_of (Some (Text s)) = None
int_of (Some (OfClass c n)) = None
int_of (Some (OfThread t n)) = None
int_of (Some Out) = None

-- the number of a long
abbrev pub long_of : Option Value → Option ℤ
long_of None = None
long_of (Some (Long n)) = Some n
long_of (Some (Int n)) = None
long_of (Some Null) = None
long_of (Some (Text s)) = None
long_of (Some (OfClass c n)) = None
long_of (Some (OfThread t n)) = None
long_of (Some Out) = None

abbrev pub is_number : Value → Bool
is_number (Int n) = true
is_number (Long n) = true
is_number Null = false
is_number (Text s) = false
is_number (OfClass c n) = false
is_number (OfThread t n) = false
is_number Out = false

abbrev pub IsNumber : Value → Type 0
IsNumber v = is_number v ≡ true
