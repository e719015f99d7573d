-- Parts that are each lawful by what is wanted there are lawful one after the other.
use Rattle.std.proofs.Common.{◌≡◌, ℕ, List, [], ◌∷◌, ◌++◌, Result, refl, sym, subst, ◌∙◌, append_assoc}
use Rattle.std.specs.List.{flat_map, AllZip}
use Rattle.std.proofs.lemmas.List.{append-nil}
use Rattle.classfile.proofs.Lawful.{Lawful, Both, Is, pure_lawful, restated, then_lawful}
use Rattle.classfile.proofs.RuleLawful.{append_equal}
use Rattle.image_parser.specs.FirstFailing.{EachFails}
use Rattle.image_parser.specs.reading.Results.{each_at}

-- the text of what fits there
abbrev pub Spelled : {K X : Type 0} → (X → List ℕ) → (K → X → Type 0) → K → X → List ℕ → Type 0
Spelled spell Fits k x text = Fits k x × (text ≡ spell x)

-- the texts of all
abbrev pub AllSpelled : {K X : Type 0} → (X → List ℕ) → (K → X → Type 0) → List K → List X → List ℕ → Type 0
AllSpelled spell Fits ks xs text = AllZip Fits ks xs × (text ≡ flat_map spell xs)

abbrev EachAfter : {K X : Type 0} → (K → X → List ℕ → Type 0) → List K → List X → List X → List ℕ → Type 0
EachAfter Spells [] items = Is items
EachAfter Spells (k ∷ ks) items = Both (Spells k) (λ x. EachAfter Spells ks (items ++ x ∷ []))

after_lawful : {E : Type 0} {K X : Type 0} (read : K → List ℕ → Result (X × List ℕ) E)
    (Spells : K → X → List ℕ → Type 0)
    (Fails : K → List ℕ → E → Type 0)
    → ((k : K) → Lawful (read k) (Spells k) (Fails k)) → (ks : List K) (items : List X)
    → Lawful (each_at read ks items) (EachAfter Spells ks items) (EachFails Spells Fails ks)
unfolding each_at
after_lawful read Spells Fails one [] items = pure_lawful items
after_lawful read Spells Fails one (k ∷ ks) items =
    then_lawful (read k) (λ bytes x. each_at read ks (items ++ x.0 ∷ []) x.1) (one k)
    (λ bytes x text s. after_lawful read Spells Fails one ks (items ++ x ∷ []))

record Added {K X : Type 0} (spell : X → List ℕ) (Fits : K → X → Type 0) (ks : List K) (items all : List X)
    (text : List ℕ) : Type 0 where
  added : List X
  is : all ≡ items ++ added
  each : AllZip Fits ks added
  spelled : text ≡ flat_map spell added

added_by : {K X : Type 0} (spell : X → List ℕ) (Fits : K → X → Type 0) (ks : List K) (items all : List X)
    (text : List ℕ)
    → EachAfter (Spelled spell Fits) ks items all text → Added spell Fits ks items all text
added_by {K} {X} spell Fits [] items all text s = record {
  added = [];
  is = s.0 ∙ sym (append-nil items);
  each = tt;
  spelled = s.1;
}
added_by {K} {X} spell Fits (k ∷ ks) items all text s =
    let inner = added_by spell Fits ks (items ++ s.value ∷ []) all s.back s.second in
    record {
      added = s.value ∷ inner.added;
      is = inner.is ∙ append_assoc items (s.value ∷ []) inner.added;
      each = (s.first.0, inner.each);
      spelled = s.parts ∙ append_equal s.front (spell s.value) s.back (flat_map spell inner.added) s.first.1
          inner.spelled;
    }

added_again : {K X : Type 0} (spell : X → List ℕ) (Fits : K → X → Type 0) (ks : List K) (items added : List X)
    → AllZip Fits ks added → EachAfter (Spelled spell Fits) ks items (items ++ added) (flat_map spell added)
added_again spell Fits [] items [] each = (append-nil items, refl)
added_again spell Fits [] items (x ∷ xs) each = absurd each
added_again spell Fits (k ∷ ks) items [] each = absurd each
added_again {K} {X} spell Fits (k ∷ ks) items (x ∷ xs) each =
    let same : (items ++ x ∷ []) ++ xs ≡ items ++ x ∷ xs = append_assoc items (x ∷ []) xs in
    let inner = added_again spell Fits ks (items ++ x ∷ []) xs each.1 in
    let Q : List X → Type 0 = λ z. EachAfter (Spelled spell Fits) ks (items ++ x ∷ []) z (flat_map spell xs) in
    record {
      value = x;
      front = spell x;
      back = flat_map spell xs;
      first = (each.0, refl);
      second = subst Q same inner;
      parts = refl;
    }

all_again : {K X : Type 0} (spell : X → List ℕ) (Fits : K → X → Type 0) (ks : List K) (xs : List X) (text : List ℕ)
    → AllSpelled spell Fits ks xs text → EachAfter (Spelled spell Fits) ks [] xs text
all_again {K} {X} spell Fits ks xs text s =
    let Q : List ℕ → Type 0 = λ z. EachAfter (Spelled spell Fits) ks [] xs z in
    subst Q (sym s.1) (added_again spell Fits ks [] xs s.0)

all_by : {K X : Type 0} (spell : X → List ℕ) (Fits : K → X → Type 0) (ks : List K) (xs : List X) (text : List ℕ)
    → EachAfter (Spelled spell Fits) ks [] xs text → AllSpelled spell Fits ks xs text
all_by {K} {X} spell Fits ks xs text s =
    let a = added_by spell Fits ks [] xs text s in
    let P : List X → Type 0 = λ z. AllSpelled spell Fits ks z text in
    subst P (sym a.is) (a.each, a.spelled)

pub each_lawful : {E : Type 0} {K X : Type 0} (spell : X → List ℕ) (Fits : K → X → Type 0)
    (Fails : K → List ℕ → E → Type 0) (read : K → List ℕ → Result (X × List ℕ) E)
    → ((k : K) → Lawful (read k) (Spelled spell Fits k) (Fails k)) → (ks : List K)
    → Lawful (each_at read ks []) (AllSpelled spell Fits ks) (EachFails (Spelled spell Fits) Fails ks)
each_lawful spell Fits Fails read one ks =
    restated (after_lawful read (Spelled spell Fits) Fails one ks []) (all_by spell Fits ks) (all_again spell Fits ks)
