-- Places that runs cover, and the classes whose names stand there.
use Rattle.std.proofs.Common.{◌≡◌, ◌≢◌, ℕ, ◌+◌, ◌<◌, ◌≤◌, ◌⊎◌, inl, inr, Bool, List, length, set}
use Rattle.std.proofs.Common.{get_or, take, Some, sym, ap, ◌∙◌, subst, arith, ◌↔◌, slice_get}
use Rattle.std.proofs.Common.{max}
use Rattle.std.specs.List.{All}
use Rattle.std.specs.String.{string_bytes}
use Rattle.std.proofs.lemmas.Bool.{cases_eq, cases_lt}
use Rattle.std.proofs.lemmas.List.{get_or-set_same, get_or-set_other, length-set, take_all}
use Rattle.std.proofs.lemmas.Option.{same_Some, slice_get_within, slice_get_cases}
use Rattle.options.specs.Patterns.{spelled}
use Rattle.options.specs.steps.Flags.{IsFlagged, Grow}
use Rattle.options.specs.steps.Names.{IsInRun, IsRunOf}
use Rattle.options.specs.steps.Covering.{Covers, CoversMore, IsMatchedAt, IsKnownIn, IsMatchedByOne, AreCoveredBy}
use Rattle.options.specs.steps.Covering.{IsOfUnknown, of_text, IsOfFirstUnknown, of_place, IsCoveredClass}
use Rattle.options.specs.steps.Covering.{IsEndOf, AreFlaggedTo}
use Rattle.options.specs.steps.Texts.{Text}
use Rattle.options.specs.declared.fault.OptionFault.{OptionFault}
use Rattle.options.specs.declared.fault.OptionFault.TheVariants.{Memory, Unknown}
use Rattle.options.specs.declared.sorted_names.DottedName.{DottedName}
use Rattle.options.specs.declared.sorted_names.NameRange.{NameRange}
use Rattle.options.proofs.ListLemmas.{all_more, among, among_more, into_among}

slice_get_there : {A : Type 0} (xs : List A) (i : ℕ) → i < length xs → (x : A) × (slice_get xs i ≡ Some x)
slice_get_there xs i small = elim (slice_get_cases xs i).1 [
  | inl (x, within, at, read) ↦ (x, at)
  | inr (past, none) ↦ absurd (omega (arith, small, past))
]

-- ---- one run more

module _ (old : List ℕ) (run : NameRange) (small : run.first < length old) where
  pub covered_more : get_or old run.first 0 < run.end → CoversMore old (set old run.first run.end) (IsInRun run)
  covered_more longer =
      record { len = length-set old run.first run.end; places = λ i. (to i, from i) }
    where
      new : List ℕ
      new = set old run.first run.end

      here : get_or new run.first 0 ≡ run.end
      here = get_or-set_same old run.first run.end 0 small

      there : (j : ℕ) → run.first ≢ j → get_or new j 0 ≡ get_or old j 0
      there j other = get_or-set_other old run.first j run.end 0 (λ same. other (sym same))

      to : (i : ℕ) → Covers new i → Covers old i ⊎ IsInRun run i
      to i (j, le, below) = elim (cases_eq run.first j) [
        | inl same ↦
            let read : get_or new j 0 ≡ run.end = ap (λ (k : ℕ). get_or new k 0) (sym same) ∙ here in
            inr (omega (arith, same, le), omega (arith, read, below))
        | inr other ↦ inl (j, le, omega (arith, there j other, below))
      ]

      from : (i : ℕ) → Covers old i ⊎ IsInRun run i → Covers new i
      from i (inl (j, le, below)) = elim (cases_eq run.first j) [
        | inl same ↦
            let read : get_or old j 0 ≡ get_or old run.first 0 = ap (λ (k : ℕ). get_or old k 0) (sym same) in
            (run.first, omega (arith, same, le), omega (arith, here, longer, read, below))
        | inr other ↦ (j, le, omega (arith, there j other, below))
      ]
      from i (inr (low, high)) = (run.first, low, omega (arith, here, high))

-- ---- what a pattern matches, and the first patterns do

pub matched_more : (names : List DottedName) (pattern : List ℕ) (run : NameRange) (old new : List ℕ)
    → length old ≡ length names → IsRunOf names (spelled pattern) run → CoversMore old new (IsInRun run)
    → CoversMore old new (IsMatchedAt names pattern)
matched_more names pattern run old new len is more =
    record { len = more.len; places = λ i. (to i, from i) }
  where
    to : (i : ℕ) → Covers new i → Covers old i ⊎ IsMatchedAt names pattern i
    to i covered = elim ((more.places i).0 covered) [
      | inl was ↦ inl was
      | inr one ↦
          let at = slice_get_there names i (omega (arith, one.1, is.within)) in
          inr (at.0, at.1, (is.places i at.0 at.1).0 one)
    ]

    from : (i : ℕ) → Covers old i ⊎ IsMatchedAt names pattern i → Covers new i
    from i (inl was) = (more.places i).1 (inl was)
    from i (inr (n, at, begins)) = (more.places i).1 (inr ((is.places i n at).1 begins))

pub known_by_run : (names : List DottedName) (pattern : List ℕ) (run : NameRange) → IsRunOf names (spelled pattern) run
    → run.first < run.end → IsKnownIn names pattern
known_by_run names pattern run is some =
    let at = slice_get_there names run.first (omega (arith, some, is.within)) in
    (run.first, (at.0, at.1, (is.places run.first at.0 at.1).0 (omega arith, some)))

pub unknown_by_run : (names : List DottedName) (pattern : List ℕ) (run : NameRange)
    → IsRunOf names (spelled pattern) run
    → run.end ≤ run.first → IsKnownIn names pattern → ⊥
unknown_by_run names pattern run is none (i, (n, at, begins)) =
    (let one = (is.places i n at).1 begins in absurd (omega (arith, one.0, one.1, none)))

pub of_unknown : (names : List DottedName) (pattern : List ℕ) (run : NameRange) (fault : OptionFault)
    → IsRunOf names (spelled pattern) run → run.end ≤ run.first
    → (fault ≡ Memory) ⊎ ((text : Text) × (string_bytes text ≡ pattern) × (fault ≡ Unknown text))
    → (fault ≡ Memory) ⊎ IsOfUnknown names pattern fault
of_unknown names pattern run fault is none (inl memory) = inl memory
of_unknown names pattern run fault is none (inr (text, copy, same)) =
    inr (subst (IsOfUnknown names pattern) (sym same) (of_text copy (unknown_by_run names pattern run is none)))

module _ (names : List DottedName) (patterns : List (List ℕ)) (first old new : List ℕ) (n : ℕ) (pattern : List ℕ)
    (at : slice_get patterns n ≡ Some pattern) (before : AreCoveredBy names patterns first old n)
    (more : CoversMore old new (IsMatchedAt names pattern)) where
  by_more : (i : ℕ) → IsMatchedByOne names (take (n + 1) patterns) i
      → IsMatchedByOne names (take n patterns) i ⊎ IsMatchedAt names pattern i
  by_more i (p, listed, matches) = elim (among_more patterns n pattern p at listed) [
    | inl was ↦ inl (p, was, matches)
    | inr same ↦ inr (subst (λ (q : List ℕ). IsMatchedAt names q i) same matches)
  ]

  by_before : (i : ℕ) → IsMatchedByOne names (take n patterns) i → IsMatchedByOne names (take (n + 1) patterns) i
  by_before i (p, listed, matches) =
      let there = among patterns n p listed in
      (p, into_among patterns (n + 1) there.0 p (omega (arith, there.1)) there.2, matches)

  by_here : (i : ℕ) → IsMatchedAt names pattern i → IsMatchedByOne names (take (n + 1) patterns) i
  by_here i matches = (pattern, into_among patterns (n + 1) n pattern (omega arith) at, matches)

  pub by_one_more : IsKnownIn names pattern → AreCoveredBy names patterns first new (n + 1)
  by_one_more known = record {
    known = all_more (IsKnownIn names) patterns n pattern at before.known known;
    covers = record { len = more.len ∙ before.covers.len; places = λ i. (to i, from i) };
  }
    where
      to : (i : ℕ) → Covers new i → Covers first i ⊎ IsMatchedByOne names (take (n + 1) patterns) i
      to i is = elim ((more.places i).0 is) [
        | inl was ↦ elim ((before.covers.places i).0 was) [
          | inl at-first ↦ inl at-first
          | inr some ↦ inr (by_before i some)
        ]
        | inr fresh ↦ inr (by_here i fresh)
      ]

      from : (i : ℕ) → Covers first i ⊎ IsMatchedByOne names (take (n + 1) patterns) i → Covers new i
      from i (inl at-first) = (more.places i).1 (inl ((before.covers.places i).1 (inl at-first)))
      from i (inr some) = elim (by_more i some) [
        | inl was ↦ (more.places i).1 (inl ((before.covers.places i).1 (inr was)))
        | inr fresh ↦ (more.places i).1 (inr fresh)
      ]

pub first_unknown : (names : List DottedName) (patterns : List (List ℕ)) (n : ℕ) (pattern : List ℕ)
    (fault : OptionFault) → slice_get patterns n ≡ Some pattern → All (IsKnownIn names) (take n patterns)
    → (fault ≡ Memory) ⊎ IsOfUnknown names pattern fault
    → (fault ≡ Memory) ⊎ IsOfFirstUnknown names patterns fault
first_unknown names patterns n pattern fault at before (inl memory) = inl memory
first_unknown names patterns n pattern _ at before (inr (of_text {text} same none)) =
    inr (of_place n (at ∙ ap Some (sym same)) (λ one. none (subst (IsKnownIn names) same one)) before)

module _ (names : List DottedName) (patterns : List (List ℕ)) (first now : List ℕ) (n : ℕ)
    (end : length patterns ≤ n) (done : AreCoveredBy names patterns first now n) where
  pub all_known : All (IsKnownIn names) patterns
  all_known = subst (All (IsKnownIn names)) (take_all n patterns end) done.known

  pub by_all : CoversMore first now (IsMatchedByOne names patterns)
  by_all = subst (λ (ps : List (List ℕ)). CoversMore first now (IsMatchedByOne names ps)) (take_all n patterns end)
      done.covers

-- ---- the classes at covered places

module _ (names : List DottedName) (ends : List ℕ) (first old : List Bool) (count reach more : ℕ)
    (before : AreFlaggedTo names ends first old count reach) (is : more ≡ max (get_or ends count 0) reach) where
  end_more : IsEndOf ends (count + 1) more
  end_more i = (to, from)
    where
      to : i < more → (j : ℕ) × (j < count + 1) × (i < get_or ends j 0)
      to small = elim (cases_lt i reach) [
        | inl below ↦ let one = (before.end i).0 below in (one.0, omega (arith, one.1), one.2)
        | inr past ↦ (count, omega arith, omega (arith, small, past, is))
      ]

      from : (j : ℕ) × (j < count + 1) × (i < get_or ends j 0) → i < more
      from (j, below, small) = elim (cases_lt j count) [
        | inl less ↦ let one = (before.end i).1 (j, less, small) in omega (arith, one, is)
        | inr past ↦
            let same : j ≡ count = omega (arith, below, past) in
            let read = ap (λ (k : ℕ). get_or ends k 0) same in
            omega (arith, small, read, is)
      ]

  covers_here : Covers ends count ↔ (count < more)
  covers_here = (
    λ covered. (end_more count).1 (covered.0, omega (arith, covered.1), covered.2),
    λ small. (let one = (end_more count).0 small in (one.0, omega (arith, one.1), one.2)),
  )

  abbrev Marked : ℕ → ℕ → Type 0
  Marked limit c = (i : ℕ) × (n : DottedName) × (i < limit) × (slice_get names i ≡ Some n) × (n.class ≡ c)
      × Covers ends i

  flagged_before : (c : ℕ) → Marked count c → Marked (count + 1) c
  flagged_before c (i, n, small, at, number, covered) = (i, n, omega (arith, small), at, number, covered)

  module _ (name : DottedName) (at : slice_get names count ≡ Some name) where
    flagged_cases : (c : ℕ) → Marked (count + 1) c → Marked count c ⊎ ((c ≡ name.class) × (count < more))
    flagged_cases c (i, n, small, there, number, covered) = elim (cases_lt i count) [
      | inl below ↦ inl (i, n, below, there, number, covered)
      | inr past ↦
          let same : i ≡ count = omega (arith, small, past) in
          let one : n ≡ name = same_Some n name (sym there ∙ ap (slice_get names) same ∙ at) in
          inr (sym number ∙ ap (λ (m : DottedName). m.class) one, covers_here.0 (subst (Covers ends) same covered))
    ]

    pub flagged_more : (new : List Bool) → count < more → Grow old new (λ c. c ≡ name.class)
        → AreFlaggedTo names ends first new (count + 1) more
    flagged_more new small grown = record {
      end = end_more;
      flags = record { len = grown.len ∙ before.flags.len; flags = λ c. (to c, from c) };
    }
      where
        to : (c : ℕ) → IsFlagged new c → IsFlagged first c ⊎ Marked (count + 1) c
        to c flagged = elim ((grown.flags c).0 flagged) [
          | inl was ↦ elim ((before.flags.flags c).0 was) [
            | inl at-first ↦ inl at-first
            | inr some ↦ inr (flagged_before c some)
          ]
          | inr same ↦ inr (count, name, omega arith, at, sym same, covers_here.1 small)
        ]

        from : (c : ℕ) → IsFlagged first c ⊎ Marked (count + 1) c → IsFlagged new c
        from c (inl at-first) = (grown.flags c).1 (inl ((before.flags.flags c).1 (inl at-first)))
        from c (inr some) = elim (flagged_cases c some) [
          | inl was ↦ (grown.flags c).1 (inl ((before.flags.flags c).1 (inr was)))
          | inr here ↦ (grown.flags c).1 (inr here.0)
        ]

  pub flagged_same : count < length names → more ≤ count → AreFlaggedTo names ends first old (count + 1) more
  flagged_same small short = record {
    end = end_more;
    flags = record { len = before.flags.len; flags = λ c. (to c, from c) };
  }
    where
      there : (name : DottedName) × (slice_get names count ≡ Some name)
      there = slice_get_there names count small

      to : (c : ℕ) → IsFlagged old c → IsFlagged first c ⊎ Marked (count + 1) c
      to c flagged = elim ((before.flags.flags c).0 flagged) [
        | inl at-first ↦ inl at-first
        | inr some ↦ inr (flagged_before c some)
      ]

      from : (c : ℕ) → IsFlagged first c ⊎ Marked (count + 1) c → IsFlagged old c
      from c (inl at-first) = (before.flags.flags c).1 (inl at-first)
      from c (inr some) = elim (flagged_cases there.0 there.1 c some) [
        | inl was ↦ (before.flags.flags c).1 (inr was)
        | inr here ↦ absurd (omega (arith, here.1, short))
      ]

pub flagged_all : (names : List DottedName) (ends : List ℕ) (first now : List Bool) (count reach : ℕ)
    → length names ≤ count → AreFlaggedTo names ends first now count reach
    → Grow first now (IsCoveredClass names ends)
flagged_all names ends first now count reach end done =
    record { len = done.flags.len; flags = λ c. (to c, from c) }
  where
    to : (c : ℕ) → IsFlagged now c → IsFlagged first c ⊎ IsCoveredClass names ends c
    to c flagged = elim ((done.flags.flags c).0 flagged) [
      | inl at-first ↦ inl at-first
      | inr (i, n, small, at, number, covered) ↦ inr (i, n, at, number, covered)
    ]

    from : (c : ℕ) → IsFlagged first c ⊎ IsCoveredClass names ends c → IsFlagged now c
    from c (inl at-first) = (done.flags.flags c).1 (inl at-first)
    from c (inr (i, n, at, number, covered)) =
        (done.flags.flags c).1
        (inr (i, n, (let within = slice_get_within names i n at in omega (arith, within, end)), at, number, covered))
