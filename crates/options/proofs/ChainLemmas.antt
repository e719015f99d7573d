-- Flags along superclasses.
use Rattle.std.proofs.Common.{◌≡◌, ℕ, ◌+◌, ◌<◌, ◌≤◌, ◌⊎◌, inl, inr, Bool, List, [], length}
use Rattle.std.proofs.Common.{take, Some, slice_get, refl, sym, ◌∙◌, subst, arith}
use Rattle.std.specs.List.{Contains}
use Rattle.std.proofs.lemmas.Bool.{cases_lt}
use Rattle.std.proofs.lemmas.List.{take_all}
use Rattle.std.proofs.lemmas.List.Elements.{Contains-append_right}
use Rattle.loading.specs.Families.{Family, superclasses_in, interfaces_in, IsParentsFirst}
use Rattle.loading.proofs.FamiliesParentLemmas.{no_superclasses}
use Rattle.options.specs.Classes.{IsOnChain, itself, up, IsAtOrBelow, IsAtOrAbove, AreClasses}
use Rattle.options.specs.steps.Flags.{IsFlagged, Grow, HasFlaggedSuperclass, AreBelow, AreAbove}
use Rattle.options.proofs.ListLemmas.{among, among_more, into_among}

-- ---- classes of the family

none_in : (x : ℕ) → Contains [] x → ⊥
none_in x held = omega (arith, held.1)

-- a class with a given superclass is one of the family
has_superclass : (family : Family) (class parent : ℕ) → Contains (superclasses_in family class) parent
    → class < length family
has_superclass family class parent held = elim (cases_lt class (length family)) [
  | inl small ↦ small
  | inr past ↦
      absurd (none_in parent (subst (λ (ds : List ℕ). Contains ds parent) (no_superclasses family class past) held))
]

-- a class's superclass stands before it
parent_before : (family : Family) (order : List ℕ) (i class parent : ℕ) → IsParentsFirst family order
    → slice_get order i ≡ Some class → Contains (superclasses_in family class) parent
    → Contains (take i order) parent
parent_before family order i class parent arranged at held =
    arranged.after i class parent at
    (Contains-append_right (interfaces_in family class) (superclasses_in family class) parent held)

parent_among : (family : Family) (order : List ℕ) (i class parent : ℕ) → IsParentsFirst family order
    → Contains (take i order) class → Contains (superclasses_in family class) parent
    → Contains (take i order) parent
parent_among family order i class parent arranged before held =
    let at = among order i class before in
    let above = among order at.0 parent (parent_before family order at.0 class parent arranged at.2 held) in
    into_among order i above.0 parent (omega (arith, at.1, above.1)) above.2

-- ---- below

pub below_at_first : (family : Family) (order : List ℕ) (flags : List Bool) → AreBelow family order flags flags 0
below_at_first family order flags = record {
  len = refl;
  sound = λ class is. record { above = class; on = itself; one = is };
  kept = λ class is. is;
  whole = λ class before. absurd (none_in class before);
}

module _ (family : Family) (order : List ℕ) (first old new : List Bool) (i class : ℕ)
    (arranged : IsParentsFirst family order) (at : slice_get order i ≡ Some class)
    (before : AreBelow family order first old i)
    (grown : Grow old new (λ c. (c ≡ class) × HasFlaggedSuperclass family old class)) where
  stays : (c : ℕ) → IsFlagged old c → IsFlagged new c
  stays c is = (grown.flags c).1 (inl is)

  sound_still : (c : ℕ) → IsFlagged new c → IsAtOrBelow family (IsFlagged first) c
  sound_still c is = elim ((grown.flags c).0 is) [
    | inl was ↦ before.sound c was
    | inr fresh ↦
        let parent = fresh.1.0 in
        let one = before.sound parent fresh.1.2 in
        let held : Contains (superclasses_in family c) parent =
        subst (λ (k : ℕ). Contains (superclasses_in family k) parent) (sym fresh.0) fresh.1.1 in
        record { above = one.above; on = up held one.on; one = one.one }
  ]

  -- the class itself
  here : HasFlaggedSuperclass family new class → IsFlagged new class
  here (parent, held, is) = elim ((grown.flags parent).0 is) [
    | inl was ↦ (grown.flags class).1 (inr (refl, (parent, held, was)))
    | inr fresh ↦ (grown.flags class).1 (inr (refl, fresh.1))
  ]

  -- one before it, whose superclass stands before it too
  earlier : (c : ℕ) → Contains (take i order) c → HasFlaggedSuperclass family new c → IsFlagged new c
  earlier c there (parent, held, is) = stays c (before.whole c there (parent, held, was ((grown.flags parent).0 is)))
    where
      was : IsFlagged old parent ⊎ ((parent ≡ class) × HasFlaggedSuperclass family old class) → IsFlagged old parent
      was (inl old-is) = old-is
      was (inr fresh) =
          let among-parent : Contains (take i order) parent =
          parent_among family order i c parent arranged there held in
          before.whole parent among-parent
          (subst (λ (k : ℕ). HasFlaggedSuperclass family old k) (sym fresh.0) fresh.1)

  pub below_more : AreBelow family order first new (i + 1)
  below_more = record {
    len = grown.len ∙ before.len;
    sound = sound_still;
    kept = λ c is. stays c (before.kept c is);
    whole = λ c there flagged. elim (among_more order i class c at there) [
      | inl front ↦ earlier c front flagged
      | inr same ↦
          subst (IsFlagged new) (sym same)
          (here (subst (λ (k : ℕ). HasFlaggedSuperclass family new k) same flagged))
    ];
  }

all_of : (order : List ℕ) (i c : ℕ) → length order ≤ i → Contains order c → Contains (take i order) c
all_of order i c end held = subst (λ (l : List ℕ). Contains l c) (sym (take_all i order end)) held

pub below_all : (family : Family) (order : List ℕ) (first flags : List Bool) (i : ℕ)
    → length first ≡ length family → IsParentsFirst family order → length order ≤ i
    → AreBelow family order first flags i
    → AreClasses flags (IsAtOrBelow family (IsFlagged first))
below_all family order first flags i count arranged end done class =
    (done.sound class, λ one. up_from class one.on one.one)
  where
    up_from : {above : ℕ} (c : ℕ) → IsOnChain family above c → IsFlagged first above → IsFlagged flags c
    up_from _ itself is = done.kept _ is
    up_from _ (up {class = c} {parent} held rest) is =
        done.whole c (all_of order i c end (arranged.whole c (has_superclass family c parent held)))
        (parent, held, up_from parent rest is)

-- ---- above

pub above_at_first : (family : Family) (order : List ℕ) (flags : List Bool) (n : ℕ) → length flags ≡ length family
    → IsParentsFirst family order → length order ≤ n → AreAbove family order flags flags n
above_at_first family order flags n count arranged end = record {
  len = refl;
  sound = λ class is. record { below = class; on = itself; one = is };
  kept = λ class is. is;
  whole = λ class parent is held.
      inr (all_of order n class end (arranged.whole class (has_superclass family class parent held)));
}

-- a longer chain
onward : (family : Family) (c parent below : ℕ) → Contains (superclasses_in family c) parent
    → IsOnChain family c below → IsOnChain family parent below
onward family c parent _ held itself = up held itself
onward family c parent _ held (up {class} {parent = next} more rest) = up more (onward family c parent next held rest)

module _ (family : Family) (order : List ℕ) (first old new : List Bool) (i next class : ℕ) (counted : next ≡ i + 1)
    (arranged : IsParentsFirst family order) (at : slice_get order i ≡ Some class)
    (before : AreAbove family order first old next)
    (grown : Grow old new (λ c. IsFlagged old class × Contains (superclasses_in family class) c)) where
  remains : (c : ℕ) → IsFlagged old c → IsFlagged new c
  remains c is = (grown.flags c).1 (inl is)

  sound_above : (c : ℕ) → IsFlagged new c → IsAtOrAbove family (IsFlagged first) c
  sound_above c is = elim ((grown.flags c).0 is) [
    | inl was ↦ before.sound c was
    | inr fresh ↦
        let one = before.sound class fresh.0 in
        record { below = one.below; on = onward family class c one.below fresh.1 one.on; one = one.one }
  ]

  still : (c parent : ℕ) → IsFlagged old c → Contains (superclasses_in family c) parent
      → IsFlagged new parent ⊎ Contains (take i order) c
  still c parent was held = elim (before.whole c parent was held) [
    | inl flagged ↦ inl (remains parent flagged)
    | inr left ↦ elim (among_more order i class c at
        (subst (λ (n : ℕ). Contains (take n order) c) counted left)) [
          | inl front ↦ inr front
          | inr same ↦
              inl ((grown.flags parent).1 (inr (
                subst (IsFlagged old) same was,
                subst (λ (k : ℕ). Contains (superclasses_in family k) parent) same held,
              )))
        ]
  ]

  pub above_more : AreAbove family order first new i
  above_more = record {
    len = grown.len ∙ before.len;
    sound = sound_above;
    kept = λ c is. remains c (before.kept c is);
    whole = λ c parent is held. elim ((grown.flags c).0 is) [
      | inl was ↦ still c parent was held
      | inr fresh ↦ inr (parent_before family order i class c arranged at fresh.1)
    ];
  }

pub above_all : (family : Family) (order : List ℕ) (first flags : List Bool) (left : ℕ) → left ≤ 0
    → AreAbove family order first flags left → AreClasses flags (IsAtOrAbove family (IsFlagged first))
above_all family order first flags left end done class =
    (done.sound class, λ one. down_from one.below one.on (done.kept one.below one.one))
  where
    next : (c parent : ℕ) → IsFlagged flags parent ⊎ Contains (take left order) c → IsFlagged flags parent
    next c parent (inl is) = is
    next c parent (inr some) = let here = among order left c some in absurd (omega (arith, here.1))

    down_from : (c : ℕ) → IsOnChain family class c → IsFlagged flags c → IsFlagged flags class
    down_from _ itself is = is
    down_from _ (up {class = c} {parent} held rest) is =
        down_from parent rest (next c parent (done.whole c parent is held))
