-- What the initialization procedure and its threads ask of a program.
use Rattle.std.specs.Prelude.{ℕ, Bool, List, Option}
use Rattle.vm_state.specs.declared.value.Name.{Name}
use Rattle.built_in.specs.declared.class_id.ClassId.{ClassId}
use Rattle.vm_state.specs.declared.frame.Frame.{Frame}
use Rattle.vm_state.specs.declared.frame.Activity.{Activity}
use Rattle.vm_state.specs.declared.classes.StaticField.{StaticField}
use Rattle.semantics.specs.Rows.{Row}

-- Classes are the given ones, by their numbers.
pub record Program : Type 0 where
  -- how many classes there are: their numbers are those below
  pub count : ℕ
  -- the next instruction of a frame, or a thread's start (JVMS chapter 6, 5.2)
  pub row : Frame → Row
  -- where a frame of this activity goes on after an exception of a class that is raised at a place, if it has a
  -- handler (JVMS 2.10)
  pub handler : Activity → (place : ℕ) → ClassId → Option ℕ
  -- the end of a class's initialization by an exception: the exception, or a new ExceptionInInitializerError in its
  -- place, is raised in the frames below (JVMS 5.5, steps 10 and 11)
  pub failing : (class : ℕ) → Name → Row
  -- the same with a new NoClassDefFoundError, for a parent whose initialization failed (JVMS 5.5, step 7)
  pub orphaned : (class : ℕ) → Row
  -- the frame of a class's class initialization method (JVMS 2.9), where it has one
  pub initializer : ℕ → Option Frame
  -- the classes and interfaces that are initialized before a class, in order (JVMS 5.5, step 7)
  pub parents : ℕ → List ℕ
  -- the static fields of a class, in order (JVMS 4.5)
  pub statics : ℕ → List StaticField
  -- the class whose class initialization method a frame of this activity runs
  pub initializes : Activity → Option ℕ
  -- whether a class is Enum or below it: its objects have their name and ordinal in their first two slots (JLS 8.9)
  pub is_enum : ClassId → Bool
  -- the frame that a thread begins with, to call the `main` of its entry class (JVMS 5.2)
  pub start : (entry thread : ℕ) → Frame
