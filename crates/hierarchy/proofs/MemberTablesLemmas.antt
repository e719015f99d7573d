-- The numbers of the texts of classes, class after class.
use Rattle.std.proofs.Common.{◌≡◌, ℕ, Bool, true, false, cond, eqb, List, [], ◌∷◌, ◌++◌, length, Option, Some, None}
use Rattle.std.proofs.Common.{zero, suc, slice_get, get_or, inl, inr, refl, sym, ap, ◌∙◌, subst, arith, Bor, option_map}
use Rattle.std.specs.Prelude.{slice_index_or, unwrap_or}
use Rattle.std.proofs.lemmas.Bool.{eqb-true, eqb-false}
use Rattle.std.proofs.lemmas.Option.{slice_get_within}
use Rattle.std.proofs.lemmas.List.{length-append}
use Rattle.classfile.specs.ClassFile.{ClassFile}
use Rattle.loading.specs.Names.{text_at}
use Rattle.loading.specs.Families.{Family, file_of, file_in}
use Rattle.hierarchy.specs.MemberNames.{named_in}
use Rattle.hierarchy.specs.declared.member_name.MemberName.{MemberName}
use Rattle.hierarchy.specs.steps.MemberKeys.{AreNumbers}
use Rattle.hierarchy.specs.Texts.{AreDistinct}
use Rattle.hierarchy.specs.steps.BuiltInTexts.{built_in_texts}
use Rattle.hierarchy.specs.steps.GrowingTexts.{KeepsNumbers}
use Rattle.loading.specs.declared.given.GivenClass.{GivenClass}
use Rattle.hierarchy.specs.declared.member_key.MemberKey.{MemberKey}
use Rattle.hierarchy.specs.declared.member_table.MemberTable.{MemberTable}
use Rattle.hierarchy.specs.steps.MemberTables.{IsTableOf, HavePools}
use Rattle.hierarchy.specs.steps.PoolTexts.{AreTextNumbers}
use Rattle.loading.proofs.PlaceLemmas.{slice_get_push, pushed_at}

-- the numbers of the texts of one class more
pools_next : (old texts : List (List ℕ)) (family : Family) (given : GivenClass) (pools : List (List ℕ))
    (numbers : List ℕ) → KeepsNumbers old texts → length pools ≡ length family
    → AreTextNumbers texts given.file numbers
    → ((c : ℕ) (f : ClassFile) (n : List ℕ) → file_in family c ≡ Some f → slice_get pools c ≡ Some n
    → AreTextNumbers old f n)
    → (c : ℕ) (f : ClassFile) (n : List ℕ) → file_in (family ++ given ∷ []) c ≡ Some f
    → slice_get (pools ++ numbers ∷ []) c ≡ Some n → AreTextNumbers texts f n
pools_next old texts family given pools numbers keeps count here before c f n of there =
    by (eqb (length family) c) refl
  where
    file : file_of (cond (eqb (length family) c) (Some given) (slice_get family c)) ≡ Some f
    file = ap file_of (sym (slice_get_push family given c)) ∙ of

    by : (b : Bool) → eqb (length family) c ≡ b → AreTextNumbers texts f n
    by true e = elim (pushed_at pools numbers n c there) [
      | inl early ↦ absurd (omega (arith, slice_get_within pools c n early, count, eqb-true (length family) c e))
      | inr last ↦ (let is : given.file ≡ f =
          let same : Some given.file ≡ Some f = sym (rw e refl) ∙ file in cc in
          subst (λ (g : ClassFile). AreTextNumbers texts g n) is
          (subst (λ (l : List ℕ). AreTextNumbers texts given.file l) last.1 here))
    ]
    by false e = elim (pushed_at pools numbers n c there) [
      | inl early ↦ (let is : file_in family c ≡ Some f = sym (rw e refl) ∙ file in
          λ index. keeps (get_or n index 0) (text_at f index) (before c f n is early index))
      | inr last ↦ absurd (eqb-false (length family) c e (sym count ∙ sym last.0))
    ]

-- one class more has its numbers
pub pools_with : (old texts : List (List ℕ)) (family : Family) (given : GivenClass) (pools new_pools : List (List ℕ))
    (numbers : List ℕ) → KeepsNumbers old texts → AreDistinct texts → AreTextNumbers texts given.file numbers
    → new_pools ≡ pools ++ numbers ∷ [] → HavePools family old pools → HavePools (family ++ given ∷ []) texts new_pools
pools_with old texts family given pools new_pools numbers keeps distinct here pushed have = record {
  distinct = distinct;
  first = keeps 0 [] have.first;
  built_in = λ i text at. keeps i text (have.built_in i text at);
  count = omega (
    arith,
    ap length pushed,
    length-append pools (numbers ∷ []),
    have.count,
    length-append family (given ∷ []),
  );
  pools = λ c f n of there. pools_next old texts family given pools numbers keeps have.count here
      have.pools c f n of (ap (λ l. slice_get l c) (sym pushed) ∙ there);
}

-- ---- no classes

pub no_pools : (texts pools : List (List ℕ)) → AreDistinct texts → slice_get texts 0 ≡ Some []
    → KeepsNumbers built_in_texts texts → pools ≡ [] → HavePools [] texts pools
no_pools texts pools distinct first built_in none = record {
  distinct = distinct;
  first = first;
  built_in = built_in;
  count = ap length none;
  pools = λ c f n of there. let clash : None ≡ Some f = of in absurd cc;
}

-- ---- what members are called

pub beside : {A B : Type 0} (xs : List A) (ys : List B) (i : ℕ) (x : A) → length xs ≡ length ys
    → slice_get xs i ≡ Some x → (y : B) × (slice_get ys i ≡ Some y)
beside [] ys i x count at = absurd cc
beside (z ∷ xs) [] i x count at = absurd (omega (arith, count))
beside (z ∷ xs) (y ∷ ys) zero x count at = (y, refl)
beside (z ∷ xs) (y ∷ ys) (suc i) x count at = beside xs ys i x (omega (arith, count)) at

-- the texts of the file of a class have numbers
pub numbers_of : (family : Family) (table : MemberTable) (c : ℕ) (f : ClassFile) → IsTableOf family table
    → file_in family c ≡ Some f
    → (numbers : List ℕ) × (slice_get table.pools.items c ≡ Some numbers) × AreTextNumbers table.texts f numbers
numbers_of family table c f fits file = by (slice_get family c) refl
  where
    by : (o : Option GivenClass) → slice_get family c ≡ o
        → (numbers : List ℕ) × (slice_get table.pools.items c ≡ Some numbers) × AreTextNumbers table.texts f numbers
    by None at = let clash : None ≡ Some f = sym (ap file_of at) ∙ file in absurd cc
    by (Some given) at =
        let pool = beside family table.pools.items c given (sym fits.count) at in
        (pool.0, pool.1, fits.pools c f pool.0 file pool.1)

module _ (family : Family) (table : MemberTable) (m : MemberName) (fits : IsTableOf family table) where
  pub numbers_there : (numbers : List ℕ) (key : MemberKey) → Some numbers ≡ slice_get table.pools.items m.class
      → ((texts : List (List ℕ)) (f : ClassFile) → AreTextNumbers texts f numbers
      → AreNumbers texts (record { name = text_at f m.name; descriptor = text_at f m.descriptor }) key)
      → AreNumbers table.texts (named_in family m) key
  numbers_there numbers key at are =
      let given = beside table.pools.items family m.class numbers fits.count (sym at) in
      let file : file_in family m.class ≡ Some given.0.file = ap file_of given.1 in
      rw file (are table.texts given.0.file (fits.pools m.class given.0.file numbers file (sym at)))

  pub numbers_nowhere : None ≡ slice_get table.pools.items m.class
      → AreNumbers table.texts (named_in family m) (record { name = 0; descriptor = 0 })
  numbers_nowhere none = by (slice_get family m.class) refl
    where
      by : (o : Option GivenClass) → slice_get family m.class ≡ o
          → AreNumbers table.texts (named_in family m) (record { name = 0; descriptor = 0 })
      by None at = let no_file : file_in family m.class ≡ None = ap file_of at in
          rw no_file (record { name = fits.first; descriptor = fits.first })
      by (Some given) at =
          let pool = beside family table.pools.items m.class given (sym fits.count) at in
          absurd (cc (none, pool.1))

-- ---- a text by its number

pub text_or_none : (texts : List (List ℕ)) (n : ℕ) (found : Option (Bor (List ℕ))) (result other : Bor (List ℕ))
    → option_map (λ (t : Bor (List ℕ)). t.now) found ≡ slice_get texts n → result ≡ unwrap_or found other
    → other.now ≡ [] → result.now ≡ slice_index_or texts n []
text_or_none [] n None result other at is none = ap (λ (t : Bor (List ℕ)). t.now) is ∙ none
text_or_none [] n (Some t) result other at is none = absurd cc
text_or_none (x ∷ xs) zero None result other at is none = absurd cc
text_or_none (x ∷ xs) zero (Some t) result other at is none =
    let same : t.now ≡ x = cc in ap (λ (t : Bor (List ℕ)). t.now) is ∙ same
text_or_none (x ∷ xs) (suc n) found result other at is none = text_or_none xs n found result other at is none
