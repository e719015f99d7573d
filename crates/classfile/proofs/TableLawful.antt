-- A table of lawful items is lawful.
use Rattle.std.proofs.Common.{◌≡◌, ℕ, zero, suc, List, [], ◌∷◌, ◌++◌, length, get_or, Result, refl, sym, ap, subst, ◌∙◌}
use Rattle.std.proofs.Common.{append_assoc}
use Rattle.std.proofs.Common.{arith}
use Rattle.std.specs.List.{flat_map, All, AllPairs}
use Rattle.std.specs.Int.{w16}
use Rattle.std.proofs.lemmas.List.{append-nil, get_or_append_left, length-append}
use Rattle.std.proofs.Math.Seq.{get_or-append_seam}
use Rattle.std.proofs.lemmas.List.Elements.{All-nil, All-cons}
use Rattle.std.proofs.lemmas.List.Quantifiers.{all_pairs_push}
use Rattle.classfile.specs.declared.fault.ClassFault.{ClassFault}
use Rattle.classfile.specs.reading.Numbers.{number_at}
use Rattle.classfile.specs.Faults.{Number}
use Rattle.classfile.specs.reading.Repeat.{repeat_at, table_at}
use Rattle.classfile.specs.Spelling.{u2}
use Rattle.classfile.specs.Text.{table_text}
use Rattle.classfile.specs.FirstFault.{IsItem, IsTableText, ItemsFail, TableFails}
use Rattle.classfile.proofs.Lawful.{Lawful, Both, Is, wide16, number_lawful, pure_lawful}
use Rattle.classfile.proofs.RuleLawful.{append_equal}
use Rattle.classfile.proofs.Lawful.{restated, then_lawful}

abbrev Repeated : {X : Type 0} → (List X → X → List ℕ → Type 0) → ℕ → List X → List X → List ℕ → Type 0
Repeated Spells zero items = Is items
Repeated Spells (suc n) items = Both (Spells items) (λ x. Repeated Spells n (items ++ x ∷ []))

repeat_lawful : {X : Type 0} (read : List X → List ℕ → Result (X × List ℕ) ClassFault) (Spells : List X → X → List ℕ
    → Type 0) (Fails : List X → List ℕ → ClassFault → Type 0)
    → ((items : List X) → Lawful (read items) (Spells items) (Fails items)) → (n : ℕ) (items : List X)
    → Lawful (repeat_at read n items) (Repeated Spells n items) (ItemsFail Spells Fails n items)
unfolding repeat_at
repeat_lawful read Spells Fails one zero items = pure_lawful items
repeat_lawful read Spells Fails one (suc n) items =
    then_lawful (read items) (λ bytes x. repeat_at read n (items ++ x.0 ∷ []) x.1) (one items)
    (λ bytes x text s. repeat_lawful read Spells Fails one n (items ++ x ∷ []))

record Added {X : Type 0} (spell : X → List ℕ) (Fits : X → Type 0) (MayFollow : X → X → Type 0) (n : ℕ)
    (items all : List X)
    (text : List ℕ) : Type 0 where
  added : List X
  is : all ≡ items ++ added
  number : length added ≡ n
  each : All Fits added
  pairs : AllPairs MayFollow items → AllPairs MayFollow all
  spelled : text ≡ flat_map spell added

added_by : {X : Type 0} (spell : X → List ℕ) (Fits : X → Type 0) (MayFollow : X → X → Type 0) (n : ℕ)
    (items all : List X) (text : List ℕ)
    → Repeated (IsItem spell Fits MayFollow) n items all text → Added spell Fits MayFollow n items all text
added_by {X} spell Fits MayFollow zero items all text s =
    let P : List X → Type 0 = λ z. AllPairs MayFollow z in
    record {
      added = [];
      is = s.0 ∙ sym (append-nil items);
      number = refl;
      each = All-nil Fits;
      pairs = λ h. subst P (sym s.0) h;
      spelled =
          s.1;
    }
added_by {X} spell Fits MayFollow (suc n) items all text s =
    let inner = added_by spell Fits MayFollow n (items ++ s.value ∷ []) all s.back s.second in
    record {
      added = s.value ∷ inner.added;
      is = inner.is ∙ append_assoc items (s.value ∷ []) inner.added;
      number = omega (arith, inner.number);
      each = All-cons Fits s.value inner.added s.first.fits inner.each;
      pairs = λ h. inner.pairs (all_pairs_push MayFollow items s.value h s.first.pairs);
      spelled = s.parts ∙ append_equal s.front (spell s.value) s.back (flat_map spell inner.added) s.first.spelled
          inner.spelled;
    }

-- each item of a list after others
pair_follows : {X : Type 0} (MayFollow : X → X → Type 0) (items : List X) (x : X) (xs : List X)
    → AllPairs MayFollow (items ++ x ∷ xs)
    → All (λ e. MayFollow e x) items
pair_follows {X} MayFollow items x xs pairs = λ k d lt.
    let found = pairs k (length items) d lt (omega (arith, length-append items (x ∷ xs))) in
    let left : get_or (items ++ x ∷ xs) k d ≡ get_or items k d = get_or_append_left items (x ∷ xs) d k lt in
    let right : get_or (items ++ x ∷ xs) (length items) d ≡ x = get_or-append_seam items x xs d in
    let P : X → Type 0 = λ z. MayFollow z (get_or (items ++ x ∷ xs) (length items) d) in
    let Q : X → Type 0 = λ z. MayFollow (get_or items k d) z in
    subst Q right (subst P left found)

added_again : {X : Type 0} (spell : X → List ℕ) (Fits : X → Type 0) (MayFollow : X → X → Type 0) (n : ℕ)
    (items added : List X)
    → length added ≡ n → All Fits added → AllPairs MayFollow (items ++ added)
    → Repeated (IsItem spell Fits MayFollow) n items (items ++ added) (flat_map spell added)
added_again spell Fits MayFollow zero items [] len each pairs = (append-nil items, refl)
added_again spell Fits MayFollow zero items (x ∷ xs) len each pairs = absurd (omega (arith, len))
added_again spell Fits MayFollow (suc n) items [] len each pairs = absurd (omega (arith, len))
added_again {X} spell Fits MayFollow (suc n) items (x ∷ xs) len each pairs =
    let same : (items ++ x ∷ []) ++ xs ≡ items ++ x ∷ xs = append_assoc items (x ∷ []) xs in
    let P : List X → Type 0 = λ z. AllPairs MayFollow z in
    let inner = added_again spell Fits MayFollow n (items ++ x ∷ []) xs (omega (arith, len))
    (λ k d lt. each (suc k) d (omega arith))
    (subst P (sym same) pairs) in
    let Q : List X → Type 0 = λ z. Repeated (IsItem spell Fits MayFollow) n (items ++ x ∷ []) z (flat_map spell xs) in
    record {
      value = x;
      front = spell x;
      back = flat_map spell xs;
      first = record { fits = each 0 x (omega arith); pairs = pair_follows MayFollow items x xs pairs; spelled = refl };
      second = subst Q same inner;
      parts = refl;
    }

table_is : {X : Type 0} (spell : X → List ℕ) (Fits : X → Type 0) (MayFollow : X → X → Type 0) (items : List X)
    (text : List ℕ)
    → Both (Number w16) (λ n. Repeated (IsItem spell Fits MayFollow) n []) items text
    → IsTableText spell Fits MayFollow items text
table_is {X} spell Fits MayFollow items text s =
    let all = added_by spell Fits MayFollow s.value [] items s.back s.second in
    let items-is : items ≡ all.added = all.is in
    let count-is : length items ≡ s.value = ap (λ (z : List X). length z) all.is ∙ all.number in
    let number-is : u2 s.value ≡ u2 (length all.added) = ap (λ (n : ℕ). u2 n) (sym all.number) in
    let text-is : text ≡ table_text spell all.added = s.parts
    ∙ append_equal s.front (u2 (length all.added)) s.back (flat_map spell all.added)
    (s.first.1 ∙ number-is) all.spelled in
    let P : List X → Type 0 = λ z. All Fits z in
    record {
      count = rw count-is s.first.0;
      each = subst P (sym items-is) all.each;
      pairs = all.pairs (λ i j d lt end'. absurd (omega arith));
      spelled = text-is ∙ ap (λ (z : List X). table_text spell z) (sym items-is);
    }

table_again : {X : Type 0} (spell : X → List ℕ) (Fits : X → Type 0) (MayFollow : X → X → Type 0) (items : List X)
    (text : List ℕ)
    → IsTableText spell Fits MayFollow items text
    → Both (Number w16) (λ n. Repeated (IsItem spell Fits MayFollow) n []) items text
table_again spell Fits MayFollow items text t = record {
  value = length items;
  front = u2 (length items);
  back = flat_map spell items;
  first = (t.count, refl);
  second = added_again spell Fits MayFollow (length items) [] items refl t.each t.pairs;
  parts = t.spelled;
}

pub table_lawful : {X : Type 0} (spell : X → List ℕ) (Fits : X → Type 0) (MayFollow : X → X → Type 0)
    (Fails : List X → List ℕ → ClassFault
    → Type 0) (read : List X → List ℕ → Result (X × List ℕ) ClassFault) (total : ℕ)
    → ((earlier : List X) → Lawful (read earlier) (IsItem spell Fits MayFollow earlier) (Fails earlier))
    → Lawful (table_at read total) (IsTableText spell Fits MayFollow)
    (TableFails (IsItem spell Fits MayFollow) Fails total)
table_lawful spell Fits MayFollow Fails read total one =
    restated (then_lawful (number_at w16 total) (λ bytes n. repeat_at read n.0 [] n.1) (number_lawful w16 wide16 total)
    (λ bytes n text s. repeat_lawful read (IsItem spell Fits MayFollow) Fails one n []))
    (table_is spell Fits MayFollow) (table_again spell Fits MayFollow)
