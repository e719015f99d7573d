-- The tables of the lazy start are its shared state.
use Rattle.std.proofs.Common.{◌≡◌, ℕ, zero, suc, ◌+◌, true, false, List, [], ◌∷◌, ◌++◌, map, length, slice_get, refl}
use Rattle.std.proofs.Common.{sym, nat_lt, if◌then◌else◌, replicate, ap, ◌∙◌, arith, add-zero}
use Rattle.std.proofs.Math.Path.{fun_ext}
use Rattle.std.proofs.lemmas.List.{replicate-append-replicate}
use Rattle.vm_state.specs.declared.classes.ClassArea.{ClassArea as Area}
use Rattle.vm_state.specs.declared.heap.Heap.{Heap}
use Rattle.vm_state.specs.Objects.{HeldObjects, one_held}
use Rattle.vm_state.specs.SharedTables.{SharedTables}
use Rattle.semantics.specs.Steps.{Thread as DefinedThread, Going}
use Rattle.vm_state.specs.declared.value.Value.{Value}
use Rattle.vm_state.specs.declared.object.Object.{Object}
use Rattle.vm_state.specs.declared.classes.ClassState.{ClassState}
use Rattle.vm_state.specs.declared.classes.ClassState.TheVariants.{Uninitialized}
use Rattle.vm_state.specs.declared.classes.StaticField.{StaticField}
use Rattle.vm_state.specs.Statics.{area_at, field_in, states_of, fields_of, zeros_of}
use Rattle.vm_state.specs.SharedState.{Pool, Region, SharedState}
use Rattle.vm_state.specs.Shares.{shared_of}
use Rattle.vm_state.specs.Pools.{pool_in}
use Rattle.semantics.specs.Worlds.{World, argument, argument_pool, empty_pool, blank_region, lazy_start}
use Rattle.semantics.specs.Worlds.{threads_from}
use Rattle.program.specs.declared.class.Class.{Class}
use Rattle.program.specs.Tables.{Tables, statics_if}
use Rattle.machine.specs.Linked.{blank_areas, program_of, start_frame}
use Rattle.init_engine.specs.Starts.{StandForEntries, IsLazyShared, IsStart, start_over}

blank_state : (ks : List Class) (c : ℕ) → (area_at (blank_areas ks) c).state ≡ Uninitialized
blank_state [] c = refl
blank_state (k ∷ ks) zero = refl
blank_state (k ∷ ks) (suc c) = blank_state ks c

zero_at : (statics : List StaticField) (f : ℕ) → field_in (map (λ (s : StaticField). s.zero) statics) f
    ≡ zeros_of statics f
zero_at [] f = refl
zero_at (s ∷ ss) zero = refl
zero_at (s ∷ ss) (suc f) = zero_at ss f

blank_field : (ks : List Class) (c f : ℕ) → field_in (area_at (blank_areas ks) c).fields f ≡ zeros_of
    (statics_if (slice_get ks c)) f
blank_field [] c f = refl
blank_field (k ∷ ks) zero f = zero_at k.statics f
blank_field (k ∷ ks) (suc c) f = blank_field ks c f

-- ---- objects: each thread's argument

below_none : (t : ℕ) → nat_lt t 0 ≡ false
below_none t = grind arith

first_below : (n : ℕ) → nat_lt 0 (suc n) ≡ true
first_below n = grind arith

next_below : (t n : ℕ) → nat_lt (suc t) (suc n) ≡ nat_lt t n
next_below t n = grind arith

pool_at : (n t : ℕ) → pool_in (replicate n (one_held argument)) t ≡ (if nat_lt t n then argument_pool else empty_pool)
pool_at zero t = rw (below_none t) refl
pool_at (suc n) zero = rw (first_below n) refl
pool_at (suc n) (suc t) = rw (next_below t n) (pool_at n t)

-- one more of equal elements
pub replicate_more : {X : Type 0} (n : ℕ) (x : X) → replicate n x ++ x ∷ [] ≡ replicate (n + 1) x
replicate_more n x = replicate-append-replicate n 1 x

abbrev heap_by : List HeldObjects → Heap
heap_by rows = record { classes = []; threads = rows }

-- a heap with one more thread's argument
pub one_more : (n : ℕ) (old new : Heap) (first : Object) → first ≡ argument
    → old ≡ record { classes = []; threads = replicate n (one_held argument) }
    → new ≡ record old { threads = old.threads ++ one_held first ∷ [] } →
    new ≡ record { classes = []; threads = replicate (n + 1) (one_held argument) }
one_more n old new first is before more =
    more ∙ (ap (λ (o : Object). record old { threads = old.threads ++ one_held o ∷ [] }) is
    ∙ (ap (λ (h : Heap). record h { threads = h.threads ++ one_held argument ∷ [] }) before
    ∙ ap (λ (rows : List HeldObjects). heap_by rows) (replicate_more n (one_held argument))))

abbrev region : (ℕ → Value) → Pool → Region
region fields pool = record { fields = fields; pool = pool }

blank_region-is : (P : Tables) (c : ℕ) → region (fields_of (blank_areas P.classes) c) (pool_in [] c) ≡ blank_region
    (program_of P) c
unfolding fields_of
blank_region-is P c = ap (λ fields. region fields empty_pool) (fun_ext (blank_field P.classes c))

abbrev shared_by : (ℕ → ClassState) → (ℕ → Region) → (ℕ → Pool) → SharedState
shared_by states regions pools = record { states = states; regions = regions; pools = pools; printed = [] }

states-blank : (ks : List Class) → let nowhere : ℕ → ClassState = λ c. Uninitialized in
    states_of (blank_areas ks) ≡ nowhere
unfolding states_of
states-blank ks = fun_ext (blank_state ks)

-- the tables of so many threads before any class is initialized
abbrev tables_by : List Area → Heap → SharedTables
tables_by classes heap = record { classes = classes; heap = heap }

start_shared : (P : Tables) (cs : List ℕ)
    → shared_of (tables_by (blank_areas P.classes) (heap_by (replicate (length cs) (one_held argument)))) []
    ≡ (lazy_start (program_of P) cs).shared
unfolding shared_of
start_shared P cs =
    let pools : ℕ → Pool = pool_in (replicate (length cs) (one_held argument)) in
    ap (λ states. shared_by states (λ d. region (fields_of (blank_areas P.classes) d) (pool_in [] d)) pools)
    (states-blank P.classes)
    ∙ (ap (λ (regions : ℕ → Region). shared_by (λ d. Uninitialized) regions pools) (fun_ext (blank_region-is P))
    ∙ ap (λ (ps : ℕ → Pool). shared_by (λ d. Uninitialized) (blank_region (program_of P)) ps)
    (fun_ext (pool_at (length cs))))

-- tables that are equal to those of the lazy start
pub lazy_shares : (P : Tables) (count : ℕ) (classes : List Area) (heap : Heap) (shared : SharedTables)
    → classes ≡ blank_areas P.classes → heap ≡ record { classes = []; threads = replicate count (one_held argument) }
    → shared ≡ tables_by classes heap → IsLazyShared P count shared
lazy_shares P count classes heap shared are-classes is-heap is cs counted =
    ap (λ (s : SharedTables). shared_of s []) is
    ∙ (ap (λ (ks : List Area). shared_of (tables_by ks heap) []) are-classes
    ∙ (ap (λ (h : Heap). shared_of (tables_by (blank_areas P.classes) h) [])
    (is-heap ∙ ap (λ (n : ℕ). heap_by (replicate n (one_held argument))) (sym counted))
    ∙ start_shared P cs))

abbrev world_by : SharedState → List DefinedThread → World
world_by shared threads = record { shared = shared; threads = threads }

-- the start over shared state, with the threads of the classes
pub started_over : (P : Tables) (cs : List ℕ) (threads : List DefinedThread) (shared : SharedTables) (w : World)
    → threads ≡ threads_from (program_of P) 0 cs → w ≡ world_by (shared_of shared []) threads
    → w ≡ start_over (program_of P) (shared_of shared []) cs
started_over P cs threads shared w are is =
    is ∙ ap (λ (ts : List DefinedThread). world_by (shared_of shared []) ts) are

-- the lazy start is the start over its own shared state
pub started_lazily : (P : Tables) (names : List (List ℕ)) (cs : List ℕ) (count : ℕ) (shared : SharedTables) (w : World)
    → StandForEntries P names cs → length cs ≡ count → IsLazyShared P count shared
    → w ≡ start_over (program_of P) (shared_of shared []) cs → IsStart P names w
started_lazily P names cs count shared w stand counted shares is =
    record {
      classes = cs;
      entries = stand;
      start = is ∙ ap (λ (sh : SharedState). start_over (program_of P) sh cs) (shares cs counted);
    }

-- ---- threads

abbrev pub at_start : ℕ → ℕ → DefinedThread
at_start c t = Going (start_frame c t ∷ []) []

-- one thread more, at the end
pub threads_more : (P : Tables) (t : ℕ) (cs : List ℕ) (c : ℕ)
    → threads_from (program_of P) t (cs ++ c ∷ []) ≡ threads_from (program_of P) t cs ++ at_start c (t + length cs) ∷ []
threads_more P t [] c = rw (add-zero t) refl
threads_more P t (d ∷ cs) c =
    let counted : t + 1 + length cs ≡ t + length (d ∷ cs) = omega arith in
    ap (λ (ts : List DefinedThread). at_start d t ∷ ts)
    (threads_more P (t + 1) cs c
    ∙ ap (λ k. threads_from (program_of P) (t + 1) cs ++ at_start c k ∷ []) counted)
