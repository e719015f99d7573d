-- The classes of entries, found one by one.
use Rattle.std.proofs.Common.{◌≡◌, ℕ, ◌+◌, ◌<◌, ◌⊎◌, inl, inr, List, [], ◌∷◌, ◌++◌, length, take, Some, get_or, sym}
use Rattle.std.proofs.Common.{ap, ◌∙◌, slice_get, subst, refl, Option, None, false, ◌≢◌}
use Rattle.std.specs.Prelude.{MatchOption, is_some}
use Rattle.std.proofs.lemmas.Option.{same_Some}
use Rattle.std.proofs.lemmas.List.{take_more}
use Rattle.std.specs.List.{AllZip}
use Rattle.loading.proofs.ZipLemmas.{pairs_push}
use Rattle.classfile.specs.Units.{units_text}
use Rattle.loading.specs.Families.{Family, IsFamily, name_in}
use Rattle.loading.proofs.NamesLemmas.{precedes_not_same}
use Rattle.loading.proofs.LinkingPlaceLemmas.{one_of_three}
use Rattle.program.specs.Tables.{Tables, main_in}
use Rattle.init_engine.specs.declared.fault.EntryFault.{EntryFault}
use Rattle.init_engine.specs.declared.fault.EntryFault.TheVariants.{Memory, Unknown, NoMain}
use Rattle.init_engine.specs.Starts.{AreEntries, IsAtFault, IsFirstAtFault, EntriesFail, first, count, IsEntryCount}
use Rattle.init_engine.specs.Starts.{IsCountFault, OneListOfEntries}
use Rattle.init_engine.specs.Starts.{unknown, no_main}

pub pairs_more : {A B : Type 0} (R : A → B → Type 0) (xs : List A) (i : ℕ) (d x : A) (y : B) (old new : List B)
    → i < length xs → x ≡ get_or xs i d → new ≡ old ++ y ∷ [] → R x y → AllZip R (take i xs) old
    → AllZip R (take (i + 1) xs) new
pairs_more {A} R xs i d x y old new within read pushed pair all =
    let front : take (i + 1) xs ≡ take i xs ++ x ∷ [] = take_more xs i d within
    ∙ ap (λ (z : A). take i xs ++ z ∷ []) (sym read) in
    rw (front, pushed) (pairs_push R (take i xs) old x y all pair)

pub first_at_fault : (P : Tables) (names : List (List ℕ)) (i : ℕ) (name : List ℕ) (before : List ℕ)
    (fault : EntryFault) → slice_get names i ≡ Some name → AreEntries P (take i names) before
    → (fault ≡ Memory) ⊎ IsAtFault P name i fault → (fault ≡ Memory) ⊎ IsFirstAtFault P names fault
first_at_fault P names i name before fault here all (inl memory) = inl memory
first_at_fault P names i name before fault here all (inr wrong) =
    inr (record { place = i; name = name; before = before; runnable = all; here = here; wrong = wrong })

pub count_fails : (P : Tables) (names : List (List ℕ)) (fault : EntryFault) → IsCountFault (length names) fault
    → (fault ≡ Memory) ⊎ EntriesFail P names fault
count_fails P names fault wrong = inr (count wrong)

pub entries_fail : (P : Tables) (names : List (List ℕ)) (fault : EntryFault) → IsEntryCount (length names)
    → (fault ≡ Memory) ⊎ IsFirstAtFault P names fault → (fault ≡ Memory) ⊎ EntriesFail P names fault
entries_fail P names fault counted (inl memory) = inl memory
entries_fail P names fault counted (inr wrong) = inr (first counted wrong)

-- ---- a look-up by name

abbrev Told : Tables → List ℕ → Option ℕ → Type 0
Told P name found =
    MatchOption found ((c : ℕ) → name_in P.family c ≢ Some (units_text name))
    (λ c. name_in P.family c ≡ Some (units_text name))

pub unknown_at : (P : Tables) (name : List ℕ) (place : ℕ) (found : Option ℕ) → Told P name found
    → ((c : ℕ) → found ≡ Some c → ⊥) → IsAtFault P name place (Unknown place)
unknown_at P name place None told none = unknown told
unknown_at P name place (Some c) told none = absurd (none c refl)

named_at : (P : Tables) (name : List ℕ) (found : Option ℕ) (c : ℕ) → Told P name found → found ≡ Some c
    → name_in P.family c ≡ Some (units_text name)
named_at P name None c told is = cc
named_at P name (Some d) c told is =
    subst (λ k. name_in P.family k ≡ Some (units_text name)) (same_Some d c is) told

none_where : (o : Option ℕ) → is_some o ≡ false → o ≡ None
none_where None none = refl
none_where (Some c) none = cc

pub no_main_at : (P : Tables) (name : List ℕ) (place : ℕ) (found main : Option ℕ) (c : ℕ) → Told P name found
    → found ≡ Some c → main ≡ main_in P c → is_some main ≡ false → IsAtFault P name place (NoMain place)
no_main_at P name place found main c told is read none =
    no_main c (named_at P name found c told is) (sym read ∙ none_where main none)

-- ---- one list of classes

-- a name is that of one given class
one_number : (family : Family) → IsFamily family → (name : List ℕ) (c d : ℕ) → name_in family c ≡ Some name
    → name_in family d ≡ Some name → c ≡ d
one_number family fits name c d at-c at-d = elim (one_of_three c d) [
  | inl less ↦ absurd (precedes_not_same name name (fits.ascending c d name name less at-c at-d) refl)
  | inr rest ↦ elim rest [
    | inl same ↦ same
    | inr more ↦ absurd (precedes_not_same name name (fits.ascending d c name name more at-d at-c) refl)
  ]
]

one_entries : (P : Tables) → IsFamily P.family → (names : List (List ℕ)) (cs ds : List ℕ) → AreEntries P names cs
    → AreEntries P names ds → cs ≡ ds
one_entries P fits [] [] [] all others = refl
one_entries P fits [] [] (d ∷ ds) all others = absurd others
one_entries P fits [] (c ∷ cs) ds all others = absurd all
one_entries P fits (n ∷ ns) [] ds all others = absurd all
one_entries P fits (n ∷ ns) (c ∷ cs) [] all others = absurd others
one_entries P fits (n ∷ ns) (c ∷ cs) (d ∷ ds) all others =
    let first : c ≡ d = one_number P.family fits (units_text n) c d all.0.named others.0.named in
    rw first (ap (λ (es : List ℕ). d ∷ es) (one_entries P fits ns cs ds all.1 others.1))

pub one_list : OneListOfEntries
one_list P fits names cs ds stand other = one_entries P fits names cs ds stand.entries other.entries
