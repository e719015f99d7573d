-- An image without some of its objects, and a world without them, in which nothing names one of them.
use Rattle.std.specs.Prelude.{◌≡◌, ◌↔◌, ℕ, ◌≤◌, Bool, true, not, ◌&&◌, nat_lt, is_some, List, [], ◌∷◌}
use Rattle.std.specs.List.{AllByRecursion}
use Rattle.vm_state.specs.declared.value.Maker.{Maker}
use Rattle.vm_state.specs.declared.value.Maker.TheVariants.{Class, Thread}
use Rattle.vm_state.specs.declared.initialization.Level.{Level}
use Rattle.vm_state.specs.SharedState.{Pool, SharedState, slots_at}
use Rattle.semantics.specs.Programs.{Program}
use Rattle.semantics.specs.Steps as steps
use Rattle.semantics.specs.Worlds.{World, Observation, Shows}
use Rattle.semantics.specs.Images.{Image, image_start}
use Rattle.semantics.specs.Lawful.{Names, Knows, KnowsName, KnowsSlots, IsLawful}
use Rattle.semantics.specs.helpers.Lawful.{KnowsFrames}

-- ---- images

abbrev pub keeps_by : Image → Maker → ℕ → Bool
keeps_by I (Class c) n =
    not (I.holds c && (nat_lt n (I.region c).pool.count && not (is_some ((I.region c).pool.at n))))
keeps_by I (Thread t) n = true

-- Whether a name is kept in an image: all are but those of objects that a class of the image made, and of which the
-- image does not hold the object.
abbrev pub keeps : Image → Names
keeps I x = keeps_by I x.maker x.number

-- An image without some of another's objects: of the same classes, with the same statics and counts.
pub record IsPartOf (part whole : Image) : Type 0 where
  pub holds : (c : ℕ) → part.holds c ≡ whole.holds c
  pub fields : (c f : ℕ) → part.holds c ≡ true → (part.region c).fields f ≡ (whole.region c).fields f
  pub counts : (c : ℕ) → part.holds c ≡ true → (part.region c).pool.count ≡ (whole.region c).pool.count
  pub objects : (c n : ℕ) → part.holds c ≡ true → keeps_by part (Class c) n ≡ true
      → (part.region c).pool.at n ≡ (whole.region c).pool.at n

-- Its statics and objects name kept objects alone.
pub record NamesKept (I : Image) : Type 0 where
  pub statics : (c f : ℕ) → I.holds c ≡ true → Knows (keeps I) ((I.region c).fields f)
  pub slots : (c n : ℕ) → I.holds c ≡ true → KnowsSlots (keeps I) (slots_at (I.region c).pool n)

-- ---- worlds

-- The objects of a maker without those that are left out: the others are the same, and name kept objects alone. No name
-- is left out that is still to be given.
pub record IsDroppedPool (kept : Names) (maker : Maker) (whole part : Pool) : Type 0 where
  pub count : part.count ≡ whole.count
  pub objects : (n : ℕ) → kept (record { maker = maker; number = n }) ≡ true → part.at n ≡ whole.at n
  pub slots : (n : ℕ) → kept (record { maker = maker; number = n }) ≡ true → KnowsSlots kept (slots_at whole n)
  pub fresh : (n : ℕ) → whole.count ≤ n → kept (record { maker = maker; number = n }) ≡ true

-- what is shared, without the objects that are left out
pub record IsDroppedState (kept : Names) (whole part : SharedState) : Type 0 where
  pub states : (c : ℕ) → part.states c ≡ whole.states c
  pub fields : (c f : ℕ) → (part.regions c).fields f ≡ (whole.regions c).fields f
  pub statics : (c f : ℕ) → Knows kept ((whole.regions c).fields f)
  pub regions : (c : ℕ) → IsDroppedPool kept (Class c) (whole.regions c).pool (part.regions c).pool
  pub pools : (t : ℕ) → IsDroppedPool kept (Thread t) (whole.pools t) (part.pools t)
  pub printed : part.printed ≡ whole.printed

abbrev pub KnowsLevels : Names → List Level → Type 0
KnowsLevels kept [] = Unit {0}
KnowsLevels kept (l ∷ ls) =
    KnowsFrames kept l.under × KnowsName kept l.initialization.pending × KnowsLevels kept ls

abbrev pub KnowsThread : Names → steps.Thread → Type 0
KnowsThread kept (steps.Going fs ls) = KnowsFrames kept fs × KnowsLevels kept ls
KnowsThread kept (steps.Ended end) = Unit {0}

-- A world without the objects that are left out. The threads are the same, and know kept names alone.
pub record IsDropped (kept : Names) (whole part : World) : Type 0 where
  pub shared : IsDroppedState kept whole.shared part.shared
  pub threads : part.threads ≡ whole.threads
  pub known : AllByRecursion (KnowsThread kept) whole.threads

-- ---- what shows

-- A run from an image and one from that image without objects that nothing else in it names show the same.
abbrev pub DroppedUnseen : Type 0
DroppedUnseen =
    (P : Program) (whole part : Image) (entries : List ℕ) → IsLawful P → IsPartOf part whole → NamesKept part
    → (s : Observation) → Shows P (image_start P whole entries) s ↔ Shows P (image_start P part entries) s
