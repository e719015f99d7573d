-- The texts of a class file by index, and their numbers.
use Rattle.std.proofs.Common.{◌≡◌, ℕ, zero, suc, ◌+◌, ◌<◌, ◌≤◌, ◌⊎◌, List, [], ◌∷◌, ◌++◌, length, get_or, Some}
use Rattle.std.proofs.Common.{slice_get, refl, sym, ap, ◌∙◌, unwrap_or, inl, inr, arith}
use Rattle.std.proofs.lemmas.Option.{slice_get_past, slice_get_read}
use Rattle.std.proofs.lemmas.Bool.{cases_lt}
use Rattle.classfile.specs.ClassFile.{ClassFile}
use Rattle.classfile.specs.Lookup.{utf8_in, utf8_of}
use Rattle.classfile.specs.declared.constant.Constant.{Constant}
use Rattle.loading.specs.Names.{text_at}
use Rattle.hierarchy.specs.steps.GrowingTexts.{KeepsNumbers}

text_of : (f : ClassFile) (i : ℕ) → unwrap_or (utf8_in (slice_get f.constants i)) [] ≡ text_at f i
unfolding utf8_of
text_of f i = refl

pub text_there : (f : ClassFile) (constants : List Constant) (i : ℕ) (constant : Constant) → constants ≡ f.constants
    → i < length constants → constant ≡ get_or constants i constant
    → unwrap_or (utf8_in (Some constant)) [] ≡ text_at f i
text_there f constants i constant same small is =
    ap (λ o. unwrap_or (utf8_in o) [])
    (sym (slice_get_read constants (length constants) i constant refl small is)
    ∙ ap (λ (l : List Constant). slice_get l i) same) ∙ text_of f i

pub text_beyond : (f : ClassFile) (i : ℕ) → length f.constants ≤ i → text_at f i ≡ []
text_beyond f i past =
    sym (text_of f i) ∙ ap (λ o. unwrap_or (utf8_in o) []) (slice_get_past f.constants i past)

get_or_pushed : (xs : List ℕ) (y i : ℕ) → i < length xs → get_or (xs ++ y ∷ []) i 0 ≡ get_or xs i 0
get_or_pushed [] y i h = absurd (omega (arith, h))
get_or_pushed (x ∷ xs) y zero h = refl
get_or_pushed (x ∷ xs) y (suc i) h = get_or_pushed xs y i (omega (arith, h))

get_or_last : (xs : List ℕ) (y : ℕ) → get_or (xs ++ y ∷ []) (length xs) 0 ≡ y
get_or_last [] y = refl
get_or_last (x ∷ xs) y = get_or_last xs y

get_or_past : (xs : List ℕ) (i : ℕ) → length xs ≤ i → get_or xs i 0 ≡ 0
get_or_past [] i h = refl
get_or_past (x ∷ xs) zero h = absurd (omega (arith, h))
get_or_past (x ∷ xs) (suc i) h = get_or_past xs i (omega (arith, h))

pub numbers_next : (f : ClassFile) (old new : List (List ℕ)) (numbers : List ℕ) (number k : ℕ)
    → length numbers ≡ k → KeepsNumbers old new
    → ((i : ℕ) → i < k → slice_get old (get_or numbers i 0) ≡ Some (text_at f i))
    → slice_get new number ≡ Some (text_at f k)
    → (i : ℕ) → i < k + 1 → slice_get new (get_or (numbers ++ number ∷ []) i 0) ≡ Some (text_at f i)
numbers_next f old new numbers number k count keeps there last i small = by (cases_lt i k)
  where
    by : (i < k) ⊎ (k ≤ i) → slice_get new (get_or (numbers ++ number ∷ []) i 0) ≡ Some (text_at f i)
    by (inl less) =
        ap (slice_get new) (get_or_pushed numbers number i (omega (arith, less, count)))
        ∙ keeps (get_or numbers i 0) (text_at f i) (there i less)
    by (inr more) =
        let same : i ≡ k = omega (arith, more, small) in
        ap (λ j. slice_get new (get_or (numbers ++ number ∷ []) j 0)) (same ∙ sym count)
        ∙ ap (slice_get new) (get_or_last numbers number) ∙ last ∙ ap (λ j. Some (text_at f j)) (sym same)

pub numbers_whole : (f : ClassFile) (texts : List (List ℕ)) (numbers : List ℕ) (k : ℕ) → length numbers ≡ k
    → length f.constants ≤ k → slice_get texts 0 ≡ Some []
    → ((i : ℕ) → i < k → slice_get texts (get_or numbers i 0) ≡ Some (text_at f i))
    → (i : ℕ) → slice_get texts (get_or numbers i 0) ≡ Some (text_at f i)
numbers_whole f texts numbers k count whole first there i = by (cases_lt i k)
  where
    by : (i < k) ⊎ (k ≤ i) → slice_get texts (get_or numbers i 0) ≡ Some (text_at f i)
    by (inl less) = there i less
    by (inr more) =
        ap (slice_get texts) (get_or_past numbers i (omega (arith, count, more))) ∙ first
        ∙ ap Some (sym (text_beyond f i (omega (arith, whole, more))))
