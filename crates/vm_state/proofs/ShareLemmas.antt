-- What a change of the classes' table is of the shared state.
use Rattle.std.proofs.Common.{◌≡◌, ℕ, Bool, true, false, List, refl, ap, ◌∙◌, ◌==◌, eqb-true, if◌then◌else◌, inl, inr}
use Rattle.std.proofs.Common.{◌⊎◌, Option, None, Some, Result, Ok, Err, OnOk, OnErr}
use Rattle.std.specs.Prelude.{IfSome}
use Rattle.std.proofs.Math.Path.{fun_ext}
use Rattle.vm_state.specs.declared.value.Value.{Value}
use Rattle.vm_state.specs.Output.{Print}
use Rattle.vm_state.specs.SharedTables.{SharedTables}
use Rattle.vm_state.specs.declared.classes.ClassArea.{ClassArea}
use Rattle.vm_state.specs.declared.classes.ClassState.{ClassState}
use Rattle.vm_state.specs.declared.classes.ClassState.TheVariants.{InProgress, Initialized}
use Rattle.vm_state.specs.declared.classes.StaticField.{StaticField}
use Rattle.vm_state.specs.Statics.{states_of, fields_of, with_state, with_fields, with_value, with_constants}
use Rattle.vm_state.specs.SharedState.{Pool, Region, SharedState, pool_of, set_pool, set_region, set_state}
use Rattle.vm_state.specs.SharedState.{with_field}
use Rattle.vm_state.specs.Shares.{shared_of, begun, initialized}
use Rattle.vm_state.specs.Pools.{pool_in, with_pool}
use Rattle.vm_state.specs.Objects.{HeldObjects}
use Rattle.vm_state.specs.declared.value.Maker.TheVariants.{Class, Thread}
use Rattle.vm_state.proofs.ListLemmas.{tested}
use Rattle.vm_state.proofs.PoolLemmas.{equal_turned}

pub shared_of-kept : (s : SharedTables) (b : List ClassArea) → states_of b ≡ states_of s.classes →
    fields_of b ≡ fields_of s.classes →
    (p : List Print) → shared_of (record s { classes = b }) p ≡ shared_of s p
unfolding shared_of
shared_of-kept s b states fields p = rw (states, fields) refl

pub shared_of-state : (s : SharedTables) (b : List ClassArea) (c : ℕ) (state : ClassState) →
    states_of b ≡ with_state (states_of s.classes) c state → fields_of b ≡ fields_of s.classes →
    (p : List Print) → shared_of (record s { classes = b }) p ≡ set_state (shared_of s p) c state
unfolding shared_of
shared_of-state s b c state states fields p = rw (states, fields) refl

-- one class's fields changed
abbrev region : (ℕ → Value) → Pool → Region
region fields pool = record { fields = fields; pool = pool }

region_with : (fields : ℕ → ℕ → Value) (pools : ℕ → Pool) (c : ℕ) (fs : ℕ → Value) (d : ℕ) →
    region (with_fields fields c fs d) (pools d) ≡ (if d == c then region fs (pools c) else region (fields d) (pools d))
region_with fields pools c fs d = elim (tested (d == c)) [
  | inl e ↦ let same : d ≡ c = eqb-true d c e in rw e (ap (λ k. region fs (pools k)) same)
  | inr e ↦ rw e refl
]

regions_with : (fields : ℕ → ℕ → Value) (pools : ℕ → Pool) (c : ℕ) (fs : ℕ → Value) (b : ℕ → ℕ → Value) →
    b ≡ with_fields fields c fs →
    let before : ℕ → Region = λ d. region (b d) (pools d) in
    let after : ℕ → Region = λ d. if d == c then region fs (pools c) else region (fields d) (pools d) in before ≡ after
regions_with fields pools c fs b is =
    fun_ext (λ d. ap (λ (g : ℕ → ℕ → Value). region (g d) (pools d)) is ∙ region_with fields pools c fs d)

abbrev shared_by : (ℕ → ClassState) → (ℕ → Region) → (ℕ → Pool) → List Print → SharedState
shared_by states regions pools printed = record { states = states; regions = regions; pools = pools; printed = printed }

pub shared_of-fields : (s : SharedTables) (b : List ClassArea) (c : ℕ) (fs : ℕ → Value) →
    states_of b ≡ states_of s.classes → fields_of b ≡ with_fields (fields_of s.classes) c fs →
    (p : List Print) → shared_of (record s { classes = b }) p ≡ set_region (shared_of s p) c
    (record ((shared_of s p).regions c) { fields = fs })
unfolding shared_of
shared_of-fields s b c fs states fields p =
    ap (λ g. shared_by g (λ d. region (fields_of b d) (pool_in s.heap.classes d)) (pool_in s.heap.threads) p) states
    ∙ ap (λ g. shared_by (states_of s.classes) g (pool_in s.heap.threads) p)
    (regions_with (fields_of s.classes) (pool_in s.heap.classes) c fs (fields_of b) fields)

pub shared_of-begun : (s : SharedTables) (b : List ClassArea) (c t : ℕ) (statics : List StaticField) →
    states_of b ≡ with_state (states_of s.classes) c (InProgress t) →
    fields_of b ≡ with_fields (fields_of s.classes) c (with_constants statics (fields_of s.classes c)) →
    (p : List Print) → shared_of (record s { classes = b }) p ≡ begun (shared_of s p) c t statics
unfolding shared_of
shared_of-begun s b c t statics states fields p =
    ap (λ g. shared_by g (λ d. region (fields_of b d) (pool_in s.heap.classes d)) (pool_in s.heap.threads) p) states
    ∙ ap (λ g. shared_by (with_state (states_of s.classes) c (InProgress t)) g (pool_in s.heap.threads) p)
    (regions_with (fields_of s.classes) (pool_in s.heap.classes) c (with_constants statics (fields_of s.classes c))
    (fields_of b) fields)

pub shared_of-field : (s : SharedTables) (b : List ClassArea) (c f : ℕ) (v : Value) → states_of b ≡ states_of s.classes
    →
    fields_of b ≡ with_fields (fields_of s.classes) c (with_value (fields_of s.classes c) f v) →
    (p : List Print) → shared_of (record s { classes = b }) p ≡ set_region (shared_of s p) c
    (with_field ((shared_of s p).regions c) f v)
unfolding shared_of
shared_of-field s b c f v states fields = shared_of-fields s b c (with_value (fields_of s.classes c) f v) states fields

-- ---- the objects of one maker changed

with_one : (fields : ℕ → ℕ → Value) (pools : ℕ → Pool) (c : ℕ) (p : Pool) (d : ℕ) →
    region (fields d) (with_pool pools c p d)
    ≡ (if c == d then record (region (fields d) (pools d)) { pool = p } else region (fields d) (pools d))
with_one fields pools c p d = chosen (c == d) where
  chosen : (b : Bool) → region (fields d) (if b then p else pools d)
      ≡ (if b then region (fields d) p else region (fields d) (pools d))
  chosen true = refl
  chosen false = refl

pub changed_by_class : (s : SharedTables) (b : List HeldObjects) (c : ℕ) (change : Pool → Pool) →
    pool_in b ≡ with_pool (pool_in s.heap.classes) c (change (pool_in s.heap.classes c)) →
    (p : List Print) →
    shared_of (record s { heap = record s.heap { classes = b } }) p
    ≡ set_pool (shared_of s p) (Class c) (change (pool_of (shared_of s p) (Class c)))
unfolding shared_of
changed_by_class s b c change is p =
    ap (λ (regions : ℕ → Region). shared_by (states_of s.classes) regions (pool_in s.heap.threads) p) (fun_ext (λ d.
    ap (λ (pools : ℕ → Pool). region (fields_of s.classes d) (pools d)) is
    ∙ with_one (fields_of s.classes) (pool_in s.heap.classes) c (change (pool_in s.heap.classes c)) d))

pub changed_by_thread : (s : SharedTables) (b : List HeldObjects) (t : ℕ) (change : Pool → Pool) →
    pool_in b ≡ with_pool (pool_in s.heap.threads) t (change (pool_in s.heap.threads t)) →
    (p : List Print) →
    shared_of (record s { heap = record s.heap { threads = b } }) p
    ≡ set_pool (shared_of s p) (Thread t) (change (pool_of (shared_of s p) (Thread t)))
unfolding shared_of
changed_by_thread s b t change is p =
    let regions : ℕ → Region = λ d. region (fields_of s.classes d) (pool_in s.heap.classes d) in
    ap (λ (pools : ℕ → Pool). shared_by (states_of s.classes) regions pools p) is

pub made_none_by_class : (s : SharedTables) (b : List HeldObjects) → pool_in b ≡ pool_in s.heap.classes →
    (p : List Print)
    →
    shared_of (record s { heap = record s.heap { classes = b } }) p ≡ shared_of s p
unfolding shared_of
made_none_by_class s b is p =
    let states = states_of s.classes in
    let threads = pool_in s.heap.threads in
    ap (λ (pools : ℕ → Pool). shared_by states (λ d. region (fields_of s.classes d) (pools d)) threads p) is

-- ---- a class with its objects

-- one class's fields and objects changed
region_set : (fields : ℕ → ℕ → Value) (pools : ℕ → Pool) (c : ℕ) (fs : ℕ → Value) (p : Pool) (d : ℕ) →
    region (with_fields fields c fs d) (with_pool pools c p d)
    ≡ (if d == c then region fs p else region (fields d) (pools d))
region_set fields pools c fs p d = elim (tested (d == c)) [
  | inl e ↦ rw (e, equal_turned c d ∙ e) refl
  | inr e ↦ rw (e, equal_turned c d ∙ e) refl
]

abbrev tables : List ClassArea → List HeldObjects → List HeldObjects → SharedTables
tables classes held threads = record { classes = classes; heap = record { classes = held; threads = threads } }

pub shared_of-region : (s : SharedTables) (b : List ClassArea) (held : List HeldObjects) (c : ℕ) (fs : ℕ → Value)
    (pool : Pool) → states_of b ≡ states_of s.classes → fields_of b ≡ with_fields (fields_of s.classes) c fs →
    pool_in held ≡ with_pool (pool_in s.heap.classes) c pool →
    (p : List Print) → shared_of (tables b held s.heap.threads) p ≡ set_region (shared_of s p) c (region fs pool)
unfolding shared_of
shared_of-region s b held c fs pool states fields pools p =
    let threads = pool_in s.heap.threads in
    ap (λ g. shared_by g (λ d. region (fields_of b d) (pool_in held d)) threads p) states
    ∙ ap (λ (g : ℕ → Region). shared_by (states_of s.classes) g threads p) (fun_ext (λ d.
    ap (λ (f : ℕ → ℕ → Value). region (f d) (pool_in held d)) fields
    ∙ (ap (λ (q : ℕ → Pool). region (with_fields (fields_of s.classes) c fs d) (q d)) pools
    ∙ region_set (fields_of s.classes) (pool_in s.heap.classes) c fs pool d)))

-- the region of a class, by its parts
pub shared_of-parts : (s : SharedTables) (c : ℕ) (fs : ℕ → Value) (pool : Pool) → fs ≡ fields_of s.classes c →
    pool ≡ pool_in s.heap.classes c → (p : List Print) → region fs pool ≡ (shared_of s p).regions c
unfolding shared_of
shared_of-parts s c fs pool fields objects p = rw (fields, objects) refl

pub shared_of-initialized : (s : SharedTables) (b : List ClassArea) (held : List HeldObjects) (c : ℕ) (fs : ℕ → Value)
    (pool : Pool) → states_of b ≡ with_state (states_of s.classes) c Initialized →
    fields_of b ≡ with_fields (fields_of s.classes) c fs → pool_in held ≡ with_pool (pool_in s.heap.classes) c pool →
    (p : List Print) → shared_of (tables b held s.heap.threads) p ≡ initialized (shared_of s p) c (region fs pool)
unfolding shared_of
shared_of-initialized s b held c fs pool states fields pools p =
    let threads = pool_in s.heap.threads in
    ap (λ g. shared_by g (λ d. region (fields_of b d) (pool_in held d)) threads p) states
    ∙ ap (λ (g : ℕ → Region). shared_by (with_state (states_of s.classes) c Initialized) g threads p) (fun_ext (λ d.
    ap (λ (f : ℕ → ℕ → Value). region (f d) (pool_in held d)) fields
    ∙ (ap (λ (q : ℕ → Pool). region (with_fields (fields_of s.classes) c fs d) (q d)) pools
    ∙ region_set (fields_of s.classes) (pool_in s.heap.classes) c fs pool d)))

-- ---- after a refusal

pub if_refused : {T E P : Type 0} (r : Result T E) → P → OnErr r P
if_refused (Ok value) holds = tt
if_refused (Err error) holds = holds

pub if_done : {T E P Q : Type 0} (r : Result T E) → OnOk r P → (P → Q) → OnOk r Q
if_done (Ok value) holds so = so holds
if_done (Err error) holds so = tt

pub if_put : {T P Q : Type 0} (o : Option T) → IfSome o (λ x. P) → (P → Q) → IfSome o (λ x. Q)
if_put None holds so = tt
if_put (Some value) holds so = so holds

-- what was done, or refused
pub either_way : {T E P Q : Type 0} (r : Result T E) → OnOk r P → OnErr r Q → P ⊎ Q
either_way (Ok value) done refused = inl done
either_way (Err error) done refused = inr refused
