-- A list of texts has one list of its distinct texts.
use Rattle.std.proofs.Common.{◌≡◌, ℕ, ◌⊎◌, inl, inr, List, [], ◌∷◌, ◌++◌, refl, sym, ap, ◌∙◌, subst}
use Rattle.std.specs.List.{Contains}
use Rattle.program.specs.Strings.{AreFirsts}
use Rattle.program.specs.Laws.{OneListOfStrings}

not_empty : {X : Type 0} (xs : List X) (x : X) → [] ≡ xs ++ x ∷ [] → ⊥
not_empty [] x e = cc
not_empty (y ∷ ys) x e = cc

same_ends : {X : Type 0} (xs ys : List X) (x y : X) → xs ++ x ∷ [] ≡ ys ++ y ∷ [] → (xs ≡ ys) × (x ≡ y)
same_ends [] [] x y e = (refl, cc)
same_ends [] (b ∷ ys) x y e = (let tail : [] ≡ ys ++ y ∷ [] = cc in absurd (not_empty ys y tail))
same_ends (a ∷ xs) [] x y e = (let tail : xs ++ x ∷ [] ≡ [] = cc in absurd (not_empty xs x (sym tail)))
same_ends (a ∷ xs) (b ∷ ys) x y e =
    let head : a ≡ b = cc in
    let tail : xs ++ x ∷ [] ≡ ys ++ y ∷ [] = cc in
    let rest = same_ends xs ys x y tail in
    let front : xs ≡ ys = rest.0 in
    (cc, rest.1)

-- What the last text added: nothing where it stood there before, and else itself.
record Fresh (all : List (List ℕ)) (x : List ℕ) (texts : List (List ℕ)) : Type 0 where
  before : List (List ℕ)
  are : AreFirsts all before
  new : ¬ Contains all x
  is : texts ≡ before ++ x ∷ []

last_added : {all texts : List (List ℕ)} → AreFirsts all texts → (front : List (List ℕ)) (x : List ℕ)
    → all ≡ front ++ x ∷ [] → (AreFirsts front texts × Contains front x) ⊎ Fresh front x texts
last_added AreFirsts.none front x e = absurd (not_empty front x e)
last_added (AreFirsts.again {all} {texts} {x = y} were among) front x e =
    let same = same_ends all front y x e in
    inl (
      subst (λ (ts : List (List ℕ)). AreFirsts ts texts) same.0 were,
      subst (λ (z : List ℕ). Contains front z) same.1 (subst (λ (ts : List (List ℕ)). Contains ts y) same.0 among),
    )
last_added (AreFirsts.first {all} {texts} {x = y} were fresh) front x e =
    let same = same_ends all front y x e in
    inr (record {
      before = texts;
      are = subst (λ (ts : List (List ℕ)). AreFirsts ts texts) same.0 were;
      new = λ h. fresh (subst (λ (ts : List (List ℕ)). Contains ts y) (sym same.0)
          (subst (λ (z : List ℕ). Contains front z) (sym same.1) h));
      is = ap (λ (z : List ℕ). texts ++ z ∷ []) same.1;
    })

none_added : {all texts : List (List ℕ)} → AreFirsts all texts → all ≡ [] → [] ≡ texts
none_added AreFirsts.none e = refl
none_added (AreFirsts.again {all} {x = y} were among) e = absurd (not_empty all y (sym e))
none_added (AreFirsts.first {all} {x = y} were fresh) e = absurd (not_empty all y (sym e))

same_strings : {all a : List (List ℕ)} → AreFirsts all a → (b : List (List ℕ)) → AreFirsts all b → a ≡ b
same_strings AreFirsts.none b g = none_added g refl
same_strings (AreFirsts.again {all} {x = x} were among) b g = elim (last_added g all x refl) [
  | inl same ↦ same_strings were b same.0
  | inr new ↦ absurd (new.new among)
]
same_strings (AreFirsts.first {all} {texts} {x = x} were fresh) b g = elim (last_added g all x refl) [
  | inl same ↦ absurd (fresh same.1)
  | inr new ↦ ap (λ (ts : List (List ℕ)). ts ++ x ∷ []) (same_strings were new.before new.are) ∙ sym new.is
]

pub one_list_of_strings : OneListOfStrings
one_list_of_strings all a b h g = same_strings h b g
