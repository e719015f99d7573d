-- Each list of entries stands for one list of classes or has one fault, and never both.
use Rattle.std.proofs.Common.{◌≡◌, ◌≢◌, ◌∙◌, ◌⊎◌, inl, inr, ℕ, zero, suc, ◌<◌, List, [], ◌∷◌, ◌++◌, length, take}
use Rattle.std.proofs.Common.{Option, Some, None, slice_get, refl, sym, ap, subst, arith, append-nil, append_assoc}
use Rattle.std.specs.Prelude.{is_some}
use Rattle.std.proofs.lemmas.Option.{same_Some}
use Rattle.std.proofs.Math.Seq.{take-append_seam}
use Rattle.classfile.specs.Units.{units_text}
use Rattle.loading.specs.declared.given.GivenClass.{GivenClass}
use Rattle.loading.specs.Families.{Family, IsFamily, name_in}
use Rattle.loading.specs.Names.{name_of}
use Rattle.loading.proofs.LinkingPlaceLemmas.{one_of_three}
use Rattle.loading.proofs.NamesLemmas.{precedes_not_same, same_or_one_precedes}
use Rattle.loading.proofs.ZipLemmas.{pairs_push, partner_of}
use Rattle.program.specs.Tables.{Tables, main_in}
use Rattle.init_engine.specs.declared.fault.EntryFault.{EntryFault}
use Rattle.init_engine.specs.declared.fault.EntryFault.TheVariants.{Count, NoMain, Unknown}
use Rattle.init_engine.specs.Starts.{AreEntries, EntriesFail, IsAtFault, IsCountFault, IsEntry, IsEntryCount}
use Rattle.init_engine.specs.Starts.{IsFirstAtFault, StandForEntries}
use Rattle.init_engine.specs.Starts as starts
use Rattle.cli.proofs.OneRefusalLemmas.{kept}
use Rattle.program.proofs.OneFamilyLemmas.{number_of_name}

-- ---- the class of a name

same_name : (class : GivenClass) (name : List ℕ) → (name_of class.file ≡ name) ⊎ (name_of class.file ≢ name)
same_name class name = elim (same_or_one_precedes (name_of class.file) name) [
  | inl less ↦ inr (precedes_not_same (name_of class.file) name less)
  | inr rest ↦ elim rest [
    | inl same ↦ inl same
    | inr more ↦ inr (λ e. precedes_not_same name (name_of class.file) more (sym e))
  ]
]

abbrev Found : Family → List ℕ → Type 0
Found family name = ((c : ℕ) × (name_in family c ≡ Some name)) ⊎ ((c : ℕ) → name_in family c ≢ Some name)

further : (class : GivenClass) (family : Family) (name : List ℕ) → name_of class.file ≢ name → Found family name
    → Found (class ∷ family) name
further class family name other (inl (c, at)) = inl (suc c, at)
further class family name other (inr none) = inr no
  where
    no : (c : ℕ) → name_in (class ∷ family) c ≢ Some name
    no zero is = other (same_Some (name_of class.file) name is)
    no (suc c) is = none c is

found : (family : Family) (name : List ℕ) → Found family name
found [] name = inr (λ c is. cc)
found (class ∷ family) name = elim (same_name class name) [
  | inl same ↦ inl (zero, ap Some same)
  | inr other ↦ further class family name other (found family name)
]

-- ---- one entry

abbrev Told : Tables → List ℕ → ℕ → Type 0
Told P name place = ((c : ℕ) × IsEntry P name c) ⊎ ((fault : EntryFault) × IsAtFault P name place fault)

entry_told : (P : Tables) (name : List ℕ) (place : ℕ) → Told P name place
entry_told P name place = by (found P.family (units_text name))
  where
    with_main : (c : ℕ) → name_in P.family c ≡ Some (units_text name) → (o : Option ℕ) → main_in P c ≡ o
        → Told P name place
    with_main c at None is = inr (NoMain place, starts.no_main c at is)
    with_main c at (Some method) is = inl (c, record { named = at; main = ap is_some is })

    by : Found P.family (units_text name) → Told P name place
    by (inl (c, at)) = with_main c at (main_in P c) refl
    by (inr none) = inr (Unknown place, starts.unknown none)

module _ (P : Tables) (fits : IsFamily P.family) where
  not_at_fault : {name : List ℕ} {c place : ℕ} {fault : EntryFault} → IsEntry P name c → IsAtFault P name place fault
      → ⊥
  not_at_fault {c = c} is (starts.unknown none) = none c is.named
  not_at_fault {name = name} {c = c} is (starts.no_main d named none) =
      let same : c ≡ d = number_of_name P.family fits (units_text name) c d is.named named in
      let gone : main_in P c ≡ None = ap (λ (k : ℕ). main_in P k) same ∙ none in
      (let clash = ap is_some gone in let here = is.main in cc)

  one_fault_of : {name : List ℕ} {place : ℕ} {x y : EntryFault} → IsAtFault P name place x → IsAtFault P name place y
      → x ≡ y
  one_fault_of (starts.unknown none) (starts.unknown other) = refl
  one_fault_of (starts.unknown none) (starts.no_main d named lacks) = absurd (none d named)
  one_fault_of (starts.no_main c named lacks) (starts.unknown none) = absurd (none c named)
  one_fault_of (starts.no_main c named lacks) (starts.no_main d also none) = refl

-- ---- the entries one after the other

at_seam : {X : Type 0} (xs : List X) (x : X) (rest : List X) → slice_get (xs ++ x ∷ rest) (length xs) ≡ Some x
at_seam [] x rest = refl
at_seam (y ∷ ys) x rest = at_seam ys x rest

abbrev AllTold : Tables → List (List ℕ) → Type 0
AllTold P names = ((cs : List ℕ) × AreEntries P names cs) ⊎ ((fault : EntryFault) × IsFirstAtFault P names fault)

-- the first of them stand for these classes
entries_told : (P : Tables) (done left : List (List ℕ)) (cs : List ℕ) → AreEntries P done cs → AllTold P (done ++ left)
entries_told P done [] cs all =
    inl (cs, subst (λ (names : List (List ℕ)). AreEntries P names cs) (sym (append-nil done)) all)
entries_told P done (name ∷ left) cs all = elim (entry_told P name (length done)) [
  | inl told ↦
      subst (AllTold P) (append_assoc done (name ∷ []) left)
      (entries_told P (done ++ name ∷ []) left (cs ++ told.0 ∷ [])
      (pairs_push (IsEntry P) done cs name told.0 all told.1))
  | inr told ↦
      inr (
        told.0,
        record {
          place = length done;
          name = name;
          before = cs;
          runnable =
              subst (λ (names : List (List ℕ)). AreEntries P names cs) (sym (take-append_seam done (name ∷ left))) all;
          here = at_seam done name left;
          wrong = told.1;
        },
      )
]

-- ---- how many there are

pub no_count : {n : ℕ} {fault : EntryFault} → IsEntryCount n → IsCountFault n fault → ⊥
no_count few (starts.none zero_is) = omega (arith, few.0)
no_count few (starts.many more) = omega (arith, few.1)

one_count : {n : ℕ} {x y : EntryFault} → IsCountFault n x → IsCountFault n y → x ≡ y
one_count (starts.none e) (starts.none f) = refl
one_count (starts.none e) (starts.many f) = refl
one_count (starts.many e) (starts.none f) = refl
one_count (starts.many e) (starts.many f) = refl

counted : (n : ℕ) → IsEntryCount n ⊎ IsCountFault n Count
counted zero = inr (starts.none refl)
counted (suc n) = elim (one_of_three 64 (suc n)) [
  | inl less ↦ inr (starts.many less)
  | inr rest ↦ elim rest [ inl same ↦ inl (omega arith, omega arith) | inr more ↦ inl (omega arith, omega arith) ]
]

-- ---- a list of entries

module _ (P : Tables) (fits : IsFamily P.family) (names : List (List ℕ)) where
  pub stands_or_fails : ((cs : List ℕ) × StandForEntries P names cs)
      ⊎ ((fault : EntryFault) × EntriesFail P names fault)
  stands_or_fails = elim (counted (length names)) [
    | inl few ↦ elim (entries_told P [] names [] tt) [
      | inl stand ↦ inl (stand.0, record { counted = few; entries = stand.1 })
      | inr wrong ↦ inr (wrong.0, starts.first few wrong.1)
    ]
    | inr wrong ↦ inr (Count, starts.count wrong)
  ]

  pub never_both : {cs : List ℕ} {fault : EntryFault} → StandForEntries P names cs → EntriesFail P names fault → ⊥
  never_both stand (starts.count wrong) = no_count stand.counted wrong
  never_both {cs = cs} stand (starts.first few bad) =
      not_at_fault P fits (partner_of (IsEntry P) names cs bad.place bad.name stand.entries bad.here).1 bad.wrong

  -- none before the first at fault is at fault
  not_before : {x y : EntryFault} (a : IsFirstAtFault P names x) (b : IsFirstAtFault P names y) → a.place < b.place → ⊥
  not_before a b less =
      not_at_fault P fits
      (partner_of (IsEntry P) (take b.place names) b.before a.place a.name b.runnable
      (kept b.place names a.place a.name less a.here)).1
      a.wrong

  one_first : {x y : EntryFault} → IsFirstAtFault P names x → IsFirstAtFault P names y → x ≡ y
  one_first {x = x} a b = elim (one_of_three a.place b.place) [
    | inl less ↦ absurd (not_before a b less)
    | inr rest ↦ elim rest [
      | inl same ↦
          let at : slice_get names b.place ≡ Some a.name =
          ap (λ (k : ℕ). slice_get names k) (sym same) ∙ a.here in
          let name : a.name ≡ b.name = same_Some a.name b.name (sym at ∙ b.here) in
          let moved : IsAtFault P b.name a.place x =
          subst (λ (n : List ℕ). IsAtFault P n a.place x) name a.wrong in
          one_fault_of P fits (subst (λ (k : ℕ). IsAtFault P b.name k x) same moved) b.wrong
      | inr more ↦ absurd (not_before b a more)
    ]
  ]

  pub one_fault : {x y : EntryFault} → EntriesFail P names x → EntriesFail P names y → x ≡ y
  one_fault (starts.count wrong) (starts.count other) = one_count wrong other
  one_fault (starts.count wrong) (starts.first few bad) = absurd (no_count few wrong)
  one_fault (starts.first few bad) (starts.count wrong) = absurd (no_count few wrong)
  one_fault (starts.first few bad) (starts.first also other) = one_first bad other
