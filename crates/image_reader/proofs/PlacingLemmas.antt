-- The regions of all classes of a program are all regions of its image, and the world over them is the image's start.
use Rattle.std.proofs.Common.{◌≡◌, inl, inr, ℕ, ◌+◌, ◌≤◌, Bool, true, false, List, [], length, Option, Some, None}
use Rattle.std.proofs.Common.{if◌then◌else◌, slice_set, refl, sym, ap, ◌∙◌, nat_lt, arith, get_or-set_other}
use Rattle.std.specs.Prelude.{◌&&◌, ◌==◌, is_some}
use Rattle.std.proofs.Math.Path.{fun_ext}
use Rattle.std.proofs.lemmas.Bool.{cases_eq, cases_lt, eq-eqb, le-ltb, lt-ltb, ne_eqb}
use Rattle.vm_state.specs.declared.classes.ClassState.{ClassState}
use Rattle.vm_state.specs.declared.classes.ClassState.TheVariants.{Initialized}
use Rattle.vm_state.specs.SharedState.{Region, SharedState, set_region}
use Rattle.semantics.specs.Images.{Image, with_image}
use Rattle.semantics.specs.Quiet.{Environment}
use Rattle.semantics.specs.Worlds.{World}
use Rattle.vm_state.specs.SharedTables.{SharedTables}
use Rattle.vm_state.specs.Shares.{shared_of}
use Rattle.machine.specs.Linked.{program_of}
use Rattle.program.specs.Tables.{Tables}
use Rattle.region_shape.specs.declared.regions.Region.{Region as Held}
use Rattle.region_shape.specs.Regions.{environment_of, region_in}
use Rattle.object_graph.specs.Images.{ImageTables, start_image, AreSmall}
use Rattle.init_engine.specs.Starts.{StandForEntries, IsLazyShared, start_over}
use Rattle.image_reader.specs.Starts.{IsImageStart}
use Rattle.image_reader.specs.steps.Placing.{first_classes, with_class}

-- images that hold the same classes make the same of shared state
same_held : (I J : Image) (sh : SharedState) → ((c : ℕ) → I.holds c ≡ J.holds c) → I.region ≡ J.region
    → with_image I sh ≡ with_image J sh
same_held I J sh holds regions =
    ap (λ (h : ℕ → Bool). with_image (record { holds = h; region = I.region }) sh) (fun_ext holds)
    ∙ ap (λ (r : ℕ → Region). with_image (record { holds = J.holds; region = r }) sh) regions

and_false : (b : Bool) → (b && false) ≡ false
and_false true = refl
and_false false = refl

-- ---- all classes of the program

all_held : (P : Tables) (env : Environment) → AreSmall P env → (n c : ℕ) → length P.classes ≤ n → (o : Option Region)
    → env c ≡ o → (nat_lt c n && is_some o) ≡ is_some o
all_held P env small n c past None is = and_false (nat_lt c n)
all_held P env small n c past (Some r) is =
    let within = small.classes c r is in
    let below : nat_lt c n ≡ true = grind arith in rw below refl

pub all_placed : (I : ImageTables) → AreSmall I.program (environment_of I.regions) → (n : ℕ) (sh new : SharedState)
    → length I.program.classes ≤ n → new ≡ with_image (first_classes (start_image I) n) sh
    → new ≡ with_image (start_image I) sh
all_placed I small n sh new past is =
    is ∙ same_held (first_classes (start_image I) n) (start_image I) sh
    (λ c. all_held I.program (environment_of I.regions) small n c past (environment_of I.regions c) refl) refl

-- ---- one class more

none_below : (d : ℕ) (b : Bool) → false ≡ (nat_lt d 0 && b)
none_below d b = rw (le-ltb d 0 (omega arith)) refl

pub none_placed : (I : ImageTables) (sh : SharedState) → sh ≡ with_image (first_classes (start_image I) 0) sh
none_placed I sh =
    ap (λ (holds : ℕ → Bool). with_image (record { holds = holds; region = (start_image I).region }) sh)
    (fun_ext (λ d. none_below d ((start_image I).holds d)))

-- a region that is taken out takes no other along
pub still_left : (regions : List (Option Held)) (c d : ℕ) → c + 1 ≤ d
    → region_in (slice_set regions c None) d ≡ region_in regions d
still_left regions c d past = get_or-set_other regions c d None None (λ same. omega (arith, same, past))

not_more : (c d : ℕ) → (d ≡ c → ⊥) → nat_lt d c ≡ nat_lt d (c + 1)
not_more c d other = elim (cases_lt d c) [
  | inl low ↦ lt-ltb d c low ∙ sym (lt-ltb d (c + 1) (omega (arith, low)))
  | inr past ↦ le-ltb d c past ∙ sym (le-ltb d (c + 1) (omega (arith, other, past)))
]

module _ (env : Environment) (c : ℕ) where
  none_more : env c ≡ None → (d : ℕ) → (nat_lt d c && is_some (env d)) ≡ (nat_lt d (c + 1) && is_some (env d))
  none_more is d = elim (cases_eq d c) [
    | inl same ↦ rw (same, is) (and_false (nat_lt c c) ∙ sym (and_false (nat_lt c (c + 1))))
    | inr other ↦ ap (λ (b : Bool). b && is_some (env d)) (not_more c d other)
  ]

  some_more : {A : Type 0} (r : Region) (x : A) (new old : ℕ → A) → env c ≡ Some r → x ≡ new c → (d : ℕ)
      → (if d == c then x else (if nat_lt d c && is_some (env d) then new d else old d))
      ≡ (if nat_lt d (c + 1) && is_some (env d) then new d else old d)
  some_more r x new old is last d = elim (cases_eq d c) [
    | inl same ↦ rw (same, eq-eqb c c refl, is, lt-ltb c (c + 1) (omega arith)) last
    | inr other ↦ rw (ne_eqb d c other)
        (ap (λ (b : Bool). if b && is_some (env d) then new d else old d) (not_more c d other))
  ]

one_more : (I : ImageTables) (c : ℕ) (sh : SharedState) (o : Option Region) → environment_of I.regions c ≡ o
    → with_class o c (with_image (first_classes (start_image I) c) sh)
    ≡ with_image (first_classes (start_image I) (c + 1)) sh
one_more I c sh None is =
    same_held (first_classes (start_image I) c) (first_classes (start_image I) (c + 1)) sh
    (none_more (environment_of I.regions) c is) refl
one_more I c sh (Some r) is =
    let env = environment_of I.regions in
    let I_next = first_classes (start_image I) (c + 1) in
    let last : r ≡ (start_image I).region c = rw is refl in
    let states = fun_ext (some_more env c r Initialized (λ d. Initialized) sh.states is refl) in
    let regions = fun_ext (some_more env c r r (start_image I).region sh.regions is last) in
    ap (λ (held : ℕ → ClassState). record sh {
      states = held;
      regions = (set_region (with_image (first_classes (start_image I) c) sh) c r).regions;
    }) states
    ∙ ap (λ (held : ℕ → Region). record sh { states = (with_image I_next sh).states; regions = held }) regions

pub next_placed : (I : ImageTables) (c : ℕ) (sh old new : SharedState)
    → old ≡ with_image (first_classes (start_image I) c) sh → new ≡ with_class (environment_of I.regions c) c old
    → new ≡ with_image (first_classes (start_image I) (c + 1)) sh
next_placed I c sh old new before is =
    is ∙ (ap (with_class (environment_of I.regions c) c) before
    ∙ one_more I c sh (environment_of I.regions c) refl)

-- ---- the world

pub started : (I : ImageTables) (names : List (List ℕ)) (cs : List ℕ) (count : ℕ) (lazy shared : SharedTables)
    (w : World) → StandForEntries I.program names cs → length cs ≡ count → IsLazyShared I.program count lazy
    → shared_of shared [] ≡ with_image (start_image I) (shared_of lazy [])
    → w ≡ start_over (program_of I.program) (shared_of shared []) cs → IsImageStart I names w
started I names cs count lazy shared w stand counted shares placed is =
    record {
      classes = cs;
      entries = stand;
      start = is
          ∙ ap (λ (sh : SharedState). start_over (program_of I.program) sh cs)
          (placed ∙ ap (with_image (start_image I)) (shares cs counted));
    }
