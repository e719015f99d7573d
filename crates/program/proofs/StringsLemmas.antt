-- Texts, each once, where they stand first.
use Rattle.std.proofs.Common.{◌≡◌, ℕ, ◌+◌, ◌<◌, Bool, true, false, List, [], ◌∷◌, ◌++◌, length, take, get_or, refl}
use Rattle.std.proofs.Common.{sym, ap, subst, ◌∙◌, append_assoc, append-nil, inl, inr}
use Rattle.std.specs.Bool.{Decides}
use Rattle.std.specs.List.{Contains, flat_map, list_any}
use Rattle.std.specs.Str.{bytes_eq}
use Rattle.std.proofs.lemmas.Bool.Decides.{Decides-by_or}
use Rattle.std.proofs.lemmas.List.{take_more}
use Rattle.std.proofs.lemmas.List.Concat.{flat_map-append}
use Rattle.std.proofs.lemmas.List.Elements.{Decides-contains, Contains-append_left, Contains-push, Contains-push_cases}
use Rattle.std.proofs.lemmas.Slice.Eq.{bytes_eq-Decides}
use Rattle.classfile.specs.ClassFile.{ClassFile}
use Rattle.classfile.specs.declared.constant.Constant.{Constant}
use Rattle.loading.specs.Families.{Family}
use Rattle.loading.specs.Names.{text_at}
use Rattle.loading.proofs.PlaceLemmas.{contains_at}
use Rattle.program.specs.declared.runtime_constant.RuntimeConstant.{RuntimeConstant}
use Rattle.program.specs.RuntimePool.{IsRuntimeConstant}
use Rattle.program.specs.Strings.{AreFirsts, string_of}
use Rattle.program.specs.steps.GrowingStrings.{Adds, Gains}

pub has : List ℕ → List (List ℕ) → Bool
has x = list_any (λ y. bytes_eq y x)

pub has_tells : (x : List ℕ) (xs : List (List ℕ)) → Decides (has x xs) (Contains xs x)
unfolding has
has_tells x xs = Decides-contains xs x (has x xs)
    (Decides-by_or (λ y. bytes_eq y x) (λ y. y ≡ x) (has x) (λ y. bytes_eq-Decides y x) refl (λ _ _. refl) xs)

-- the first texts are the texts
same_texts : {all texts : List (List ℕ)} → AreFirsts all texts → (x : List ℕ)
    → (Contains all x → Contains texts x) × (Contains texts x → Contains all x)
same_texts AreFirsts.none x = (λ h. h, λ h. h)
same_texts (AreFirsts.again {all = all} {texts = texts} {x = y} was among) x = (
  λ h. elim (Contains-push_cases all y x h) [
    | inl before ↦ (same_texts was x).0 before
    | inr same ↦ subst (Contains texts) same ((same_texts was y).0 among)
  ],
  λ h. Contains-append_left all (y ∷ []) x ((same_texts was x).1 h),
)
same_texts (AreFirsts.first {all = all} {texts = texts} {x = y} was fresh) x = (
  λ h. elim (Contains-push_cases all y x h) [
    | inl before ↦ Contains-append_left texts (y ∷ []) x ((same_texts was x).0 before)
    | inr same ↦ subst (Contains (texts ++ y ∷ [])) same (Contains-push texts y)
  ],
  λ h. elim (Contains-push_cases texts y x h) [
    | inl before ↦ Contains-append_left all (y ∷ []) x ((same_texts was x).1 before)
    | inr same ↦ subst (Contains (all ++ y ∷ [])) same (Contains-push all y)
  ],
)

adds_nothing : (old : List (List ℕ)) → Adds old [] old
adds_nothing old all was = subst (λ (xs : List (List ℕ)). AreFirsts xs old) (sym (append-nil all)) was

pub adds_text : (old new : List (List ℕ)) (x : List ℕ) → (Contains old x → new ≡ old)
    → (¬ Contains old x → new ≡ old ++ x ∷ []) → Adds old (x ∷ []) new
adds_text old new x same last all was = by (has x old) refl
  where
    by : (b : Bool) → has x old ≡ b → AreFirsts (all ++ x ∷ []) new
    by true e =
        let among : Contains old x = (has_tells x old).0 e in
        subst (AreFirsts (all ++ x ∷ [])) (sym (same among)) (AreFirsts.again was ((same_texts was x).1 among))
    by false e =
        let fresh : ¬ Contains old x = λ h. let hit = (has_tells x old).1 h in cc in
        subst (AreFirsts (all ++ x ∷ [])) (sym (last fresh))
        (AreFirsts.first was (λ h. fresh ((same_texts was x).0 h)))

adds_twice : (a b c m n : List (List ℕ)) → Adds a m b → Adds b n c → Adds a (m ++ n) c
adds_twice a b c m n first second all was =
    subst (λ (xs : List (List ℕ)). AreFirsts xs c) (append_assoc all m n) (second (all ++ m) (first all was))

pub gains_nothing : (old : List (List ℕ)) → Gains old [] old
gains_nothing old = record { keeps = λ i text at. at; distinct = λ apart. apart; adds = adds_nothing old }

-- one more item adds its texts
pub gains_next : {X : Type 0} (f : X → List (List ℕ)) (xs : List X) (i : ℕ) (x : X) (a b c : List (List ℕ))
    → i < length xs → x ≡ get_or xs i x → Gains a (flat_map f (take i xs)) b → Gains b (f x) c
    → Gains a (flat_map f (take (i + 1) xs)) c
gains_next f xs i x a b c within is first second =
    let here : flat_map f (get_or xs i x ∷ []) ≡ f x = append-nil (f (get_or xs i x)) ∙ ap f (sym is) in
    let more : flat_map f (take (i + 1) xs) ≡ flat_map f (take i xs) ++ f x =
    ap (flat_map f) (take_more xs i x within) ∙ flat_map-append f (take i xs) (get_or xs i x ∷ [])
    ∙ ap (λ (ys : List (List ℕ)). flat_map f (take i xs) ++ ys) here in
    record {
      keeps = λ n text at. second.keeps n text (first.keeps n text at);
      distinct = λ apart. second.distinct (first.distinct apart);
      adds = subst (λ (m : List (List ℕ)). Adds a m c) (sym more)
          (adds_twice a b c (flat_map f (take i xs)) (f x) first.adds second.adds);
    }

-- a constant that stands already adds no text
adds_held : {family : Family} {strings : List (List ℕ)} {f : ClassFile} {index : ℕ} {constant : Constant}
    {held : RuntimeConstant} → IsRuntimeConstant family strings f index constant held
    → Adds strings (string_of f constant) strings
adds_held {strings = strings} {f = f} (IsRuntimeConstant.string {utf8 = utf8} {n = n} at) =
    adds_text strings strings (text_at f utf8) (λ among. refl)
    (λ fresh. absurd (fresh (contains_at strings n (text_at f utf8) at)))
adds_held {strings = strings} is = adds_nothing strings

pub gains_held : {family : Family} {strings : List (List ℕ)} {f : ClassFile} {index : ℕ} {constant : Constant}
    {held : RuntimeConstant} → IsRuntimeConstant family strings f index constant held
    → Gains strings (string_of f constant) strings
gains_held is = record { keeps = λ i text at. at; distinct = λ apart. apart; adds = adds_held is }
