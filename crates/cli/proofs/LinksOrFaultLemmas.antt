-- Class files make one program or have a fault, in whatever order they come.
use Rattle.std.proofs.Common.{◌≡◌, ◌⊎◌, inl, inr, ℕ, zero, suc, ◌<◌, List, [], ◌∷◌, length, Option, Some, None}
use Rattle.std.proofs.Common.{slice_get, refl, sym, ap, subst, ◌∙◌, arith}
use Rattle.std.specs.List.{Contains}
use Rattle.std.specs.List.Sorted.{IsPermutation}
use Rattle.std.proofs.lemmas.Bool.{cases_lt}
use Rattle.std.proofs.lemmas.List.Sorted.{IsPermutation-refl, IsPermutation-cons, IsPermutation-swap}
use Rattle.std.proofs.lemmas.List.Sorted.{IsPermutation-trans, IsPermutation-sym, Contains-permutation}
use Rattle.std.proofs.lemmas.Option.{slice_get_within, slice_get-get_or, get_or_from_slice_get}
use Rattle.classfile.specs.Class.{IsClassFile}
use Rattle.classfile.specs.ClassFile.{ClassFile}
use Rattle.classfile.specs.Printing.{units_of}
use Rattle.classfile.specs.Units.{units_text}
use Rattle.classfile.proofs.PrintingLemmas.{units_text-units_of}
use Rattle.loading.specs.declared.fault.LinkFault.{LinkFault}
use Rattle.loading.specs.declared.fault.LinkFault.TheVariants as faults
use Rattle.loading.specs.Families.{Family, IsFamilyOf}
use Rattle.loading.specs.Files.{IsLeast, IsTwice, LinkFails, Links, WithinLimit, limit, twice}
use Rattle.loading.specs.Names.{name_of, Precedes}
use Rattle.loading.proofs.NamesLemmas.{precedes_along, precedes_not_back, precedes_not_same, same_or_one_precedes}
use Rattle.loading.proofs.FilesMovedLemmas.{are_moved, family_moved, fails_moved, links_moved}
use Rattle.image_format.proofs.NamesLemmas.{name_fits}
use Rattle.image_parser.specs.FileFaults.{Ascending, IsAfter}
use Rattle.image_parser.proofs.FamilyOrderLemmas.{files_ascend}
use Rattle.image_parser.proofs.LinkingLemmas.{links_or_fails}
use Rattle.initializer_analysis.proofs.ReachesLemmas.{Decided, decided_as, decided_both, decided_below, decided_less}
use Rattle.initializer_analysis.proofs.ReachesLemmas.{in_first, in_rest}
use Rattle.initializer_analysis.proofs.ReachesLemmas.{first_or_rest, in_none}
use Rattle.building.proofs.BuiltOrFaultLemmas.{same_bytes}

-- ---- files in the order of their names

-- the same files, in the order of their names, behind one of a name
record Sorted (before : Option (List ℕ)) (files : List ClassFile) : Type 0 where
  list : List ClassFile
  up : Ascending before list
  moved : IsPermutation files list

-- one of the files has the name of another
abbrev HasName : List ClassFile → ClassFile → Type 0
HasName files f = (g : ClassFile) × Contains files g × (name_of g ≡ name_of f)

insert : (before : Option (List ℕ)) (f : ClassFile) (files : List ClassFile) → IsAfter before (name_of f)
    → Ascending before files → Sorted before (f ∷ files) ⊎ HasName files f
insert before f [] after up = inl (record { list = f ∷ []; up = (after, tt); moved = IsPermutation-refl (f ∷ []) })
insert before f (g ∷ files) after up =
    by (same_or_one_precedes (name_of f) (name_of g)) (λ past. insert (Some (name_of g)) f files past up.1)
  where
    behind : Sorted (Some (name_of g)) (f ∷ files) ⊎ HasName files f → Sorted before (f ∷ g ∷ files)
        ⊎ HasName (g ∷ files) f
    behind (inr (h, at, is)) = inr (h, in_rest h g files at, is)
    behind (inl rest) = inl (record {
      list = g ∷ rest.list;
      up = (up.0, rest.up);
      moved = IsPermutation-trans (f ∷ g ∷ files) (g ∷ f ∷ files) (g ∷ rest.list)
          (IsPermutation-swap (f ∷ g ∷ files) (g ∷ f ∷ files) 0 1 (omega arith) (omega arith) refl)
          (IsPermutation-cons g (f ∷ files) rest.list rest.moved);
    })

    by : Precedes (name_of f) (name_of g) ⊎ ((name_of f ≡ name_of g) ⊎ Precedes (name_of g) (name_of f))
        → (Precedes (name_of g) (name_of f) → Sorted (Some (name_of g)) (f ∷ files) ⊎ HasName files f)
        → Sorted before (f ∷ g ∷ files) ⊎ HasName (g ∷ files) f
    by (inl less) more =
        inl (record { list = f ∷ g ∷ files; up = (after, (less, up.1)); moved = IsPermutation-refl (f ∷ g ∷ files) })
    by (inr (inl same)) more = inr (g, in_first g files, sym same)
    by (inr (inr past)) more = behind (more past)

place_of : (files : List ClassFile) (f : ClassFile) → Contains files f → (i : ℕ) × (slice_get files i ≡ Some f)
place_of files f (i, low, is) = (i, slice_get-get_or files i f low ∙ ap (λ (x : ClassFile). Some x) is)

later : (f : ClassFile) (files : List ClassFile) (name : List ℕ) → IsTwice files name → IsTwice (f ∷ files) name
later f files name (i, j, g, h, less, at_g, at_h, is_g, is_h) =
    (suc i, suc j, g, h, omega arith, at_g, at_h, is_g, is_h)

sort : (files : List ClassFile) → Sorted None files ⊎ ((name : List ℕ) × IsTwice files name)
sort [] = inl (record { list = []; up = tt; moved = IsPermutation-refl [] })
sort (f ∷ files) = by (sort files)
  where
    placed : (rest : Sorted None files) → Sorted None (f ∷ rest.list) ⊎ HasName rest.list f
        → Sorted None (f ∷ files) ⊎ ((name : List ℕ) × IsTwice (f ∷ files) name)
    placed rest (inl all) = inl (record {
      list = all.list;
      up = all.up;
      moved = IsPermutation-trans (f ∷ files) (f ∷ rest.list) all.list
          (IsPermutation-cons f files rest.list rest.moved) all.moved;
    })
    placed rest (inr (g, at, is)) =
        let (k, there) = place_of files g
        (Contains-permutation rest.list files g (IsPermutation-sym files rest.list rest.moved) at) in
        inr (name_of f, (zero, suc k, f, g, omega arith, refl, there, refl, is))

    by : Sorted None files ⊎ ((name : List ℕ) × IsTwice files name)
        → Sorted None (f ∷ files) ⊎ ((name : List ℕ) × IsTwice (f ∷ files) name)
    by (inr (name, two)) = inr (name, later f files name two)
    by (inl rest) = placed rest (insert None f rest.list tt rest.up)

-- ---- the least name of two files

-- the least of some names that has a property
least_name : (Q : List ℕ → Type 0) → ((name : List ℕ) → Decided (Q name)) → (names : List (List ℕ))
    → ((name : List ℕ) × Q name × ((other : List ℕ) → Contains names other → Q other → Precedes other name → ⊥))
    ⊎ ((name : List ℕ) → Contains names name → Q name → ⊥)
least_name Q each [] = inr (λ name at q. in_none name at)
least_name Q each (n ∷ names) = by (least_name Q each names) (each n)
  where
    chosen : (k : List ℕ) → Q k → ((other : List ℕ) → Contains names other → Q other → Precedes other k → ⊥) → Q n
        → Precedes n k ⊎ ((n ≡ k) ⊎ Precedes k n)
        → ((name : List ℕ) × Q name × ((other : List ℕ) → Contains (n ∷ names) other → Q other → Precedes other name
        → ⊥))
        ⊎ ((name : List ℕ) → Contains (n ∷ names) name → Q name → ⊥)
    chosen k qk least qn (inl less) = inl (
      n,
      qn,
      λ other at q before. elim (first_or_rest other n names at) [
        | inl same ↦ precedes_not_same other n before same
        | inr rest ↦ least other rest q (precedes_along other n k before less)
      ],
    )
    chosen k qk least qn (inr (inl is)) = inl (
      k,
      qk,
      λ other at q before. elim (first_or_rest other n names at) [
        | inl same ↦ precedes_not_same other k before (same ∙ is)
        | inr rest ↦ least other rest q before
      ],
    )
    chosen k qk least qn (inr (inr past)) = inl (
      k,
      qk,
      λ other at q before. elim (first_or_rest other n names at) [
        | inl same ↦ precedes_not_back k n past (subst (λ (x : List ℕ). Precedes x k) same before)
        | inr rest ↦ least other rest q before
      ],
    )

    by : ((name : List ℕ) × Q name × ((other : List ℕ) → Contains names other → Q other → Precedes other name → ⊥))
        ⊎ ((name : List ℕ) → Contains names name → Q name → ⊥) → Decided (Q n)
        → ((name : List ℕ) × Q name × ((other : List ℕ) → Contains (n ∷ names) other → Q other → Precedes other name
        → ⊥))
        ⊎ ((name : List ℕ) → Contains (n ∷ names) name → Q name → ⊥)
    by (inr none) (inr never) = inr (λ name at q. elim (first_or_rest name n names at) [
      | inl same ↦ never (subst Q same q)
      | inr rest ↦ none name rest q
    ])
    by (inr none) (inl qn) = inl (
      n,
      qn,
      λ other at q before. elim (first_or_rest other n names at) [
        | inl same ↦ precedes_not_same other n before same
        | inr rest ↦ none other rest q
      ],
    )
    by (inl (k, qk, least)) (inr never) = inl (
      k,
      qk,
      λ other at q before. elim (first_or_rest other n names at) [
        | inl same ↦ never (subst Q same q)
        | inr rest ↦ least other rest q before
      ],
    )
    by (inl (k, qk, least)) (inl qn) = chosen k qk least qn (same_or_one_precedes n k)

module _ (files : List ClassFile) where
  abbrev IsNamed : List ℕ → ℕ → Type 0
  IsNamed name i = (f : ClassFile) × (slice_get files i ≡ Some f) × (name_of f ≡ name)

  decided_named : (name : List ℕ) (i : ℕ) → Decided (IsNamed name i)
  decided_named name i = by (slice_get files i) refl
    where
      by : (o : Option ClassFile) → slice_get files i ≡ o → Decided (IsNamed name i)
      by None at = inr (λ (f, there, is). let clash = sym at ∙ there in cc)
      by (Some f) at =
          decided_as (λ is. (f, at, is)) (λ (g, there, is).
          let two : Some g ≡ Some f = sym there ∙ at in let same : g ≡ f = cc in
          sym (ap name_of same) ∙ is) (same_bytes (name_of f) name)

  decided_twice : (name : List ℕ) → Decided (IsTwice files name)
  decided_twice name =
      decided_as
      (λ (j, low, (i, small, (less, ((f, at_f, is_f), (g, at_g, is_g))))).
      (i, j, f, g, less, at_f, at_g, is_f, is_g))
      (λ (i, j, f, g, less, at_f, at_g, is_f, is_g). (
        j,
        slice_get_within files j g at_g,
        (i, slice_get_within files i f at_f, (less, ((f, at_f, is_f), (g, at_g, is_g)))),
      ))
      (decided_below (length files)
      (λ j. (i : ℕ) × (i < length files) × ((i < j) × (IsNamed name i × IsNamed name j))) (λ j low.
      decided_below (length files) (λ i. (i < j) × (IsNamed name i × IsNamed name j)) (λ i small.
      decided_both (decided_less i j) (decided_both (decided_named name i) (decided_named name j)))))

  names_of : List ClassFile → List (List ℕ)
  names_of [] = []
  names_of (f ∷ rest) = name_of f ∷ names_of rest

  in_names : (some : List ClassFile) (i : ℕ) (f : ClassFile) → slice_get some i ≡ Some f
      → Contains (names_of some) (name_of f)
  unfolding names_of
  in_names [] i f at = cc
  in_names (g ∷ rest) zero f at =
      let same : g ≡ f = cc in
      subst (λ (x : ClassFile). Contains (name_of g ∷ names_of rest) (name_of x)) same
      (in_first (name_of g) (names_of rest))
  in_names (g ∷ rest) (suc i) f at =
      in_rest (name_of f) (name_of g) (names_of rest) (in_names rest i f at)

  module _ (fit : (f : ClassFile) → Contains files f → IsClassFile f) (few : WithinLimit files) where
    abbrev pub OneOrOther : Type 0
    OneOrOther = ((family : Family) × IsFamilyOf files family × Links files)
        ⊎ ((fault : LinkFault) × LinkFails files fault)

    twice_fails : (name : List ℕ) → IsTwice files name → OneOrOther
    twice_fails name two = elim (least_name (IsTwice files) decided_twice (names_of files)) [
      | inr none ↦ absurd (none name (named name two) two)
      | inl (least, both, first) ↦ inr (
        faults.Twice (units_of least),
        twice few (spelled least both (
          both,
          λ other also before. first other (named other also) also before,
        )),
      )
    ]
      where
        named : (other : List ℕ) → IsTwice files other → Contains (names_of files) other
        named other (i, j, f, g, less, at_f, at_g, is_f, is_g) =
            subst (Contains (names_of files)) is_f (in_names files i f at_f)

        spelled : (least : List ℕ) → IsTwice files least → IsLeast (IsTwice files) least
            → IsLeast (IsTwice files) (units_text (units_of least))
        spelled least (i, j, f, g, less, at_f, at_g, is_f, is_g) is =
            let of_file = name_fits f (fit f (
              i,
              slice_get_within files i f at_f,
              get_or_from_slice_get files i f f at_f,
            )) in
            let own : units_text (units_of (name_of f)) ≡ name_of f = units_text-units_of (name_of f) of_file.1 in
            let same : units_text (units_of least) ≡ least =
            subst (λ (t : List ℕ). units_text (units_of t) ≡ t) is_f own in
            subst (IsLeast (IsTwice files)) (sym same) is

    by_order : Sorted None files ⊎ ((name : List ℕ) × IsTwice files name) → OneOrOther
    by_order (inr (name, two)) = twice_fails name two
    by_order (inl sorted) =
        let back = IsPermutation-sym files sorted.list sorted.moved in
        let moved = are_moved sorted.list files back in
        elim (links_or_fails sorted.list (files_ascend sorted.list sorted.up) (λ f at.
        fit f (Contains-permutation sorted.list files f back at))) [
          | inl (family, (of, links)) ↦ inl (
            family,
            family_moved sorted.list files family moved of,
            links_moved sorted.list files moved links,
          )
          | inr (fault, fails) ↦ inr (fault, fails_moved sorted.list files moved fault fails)
        ]

pub links_or_fault : (files : List ClassFile) → ((f : ClassFile) → Contains files f → IsClassFile f)
    → ((family : Family) × IsFamilyOf files family × Links files) ⊎ ((fault : LinkFault) × LinkFails files fault)
links_or_fault files fit = elim (cases_lt 65535 (length files)) [
  | inl many ↦ inr (faults.Limit, limit (λ few. omega (arith, few, many)))
  | inr few ↦ by_order files fit few (sort files)
]
