-- Classes that were noted beside a name and a descriptor.
use Rattle.std.proofs.Common.{◌≡◌, ◌<◌, ◌+◌, ◌⊎◌, ℕ, Bool, true, false, fold, length, get_or, take, List, [], ◌∷◌, ◌++◌}
use Rattle.std.proofs.Common.{Option, Some, None, refl, sym, ap, ◌∙◌, subst, inl, inr, arith, ltb, slice_index_or}
use Rattle.std.proofs.Common.{append-nil, append_assoc}
use Rattle.std.specs.List.{Contains}
use Rattle.std.proofs.lemmas.Bool.{cases_lt}
use Rattle.std.proofs.lemmas.List.{take_more}
use Rattle.std.proofs.lemmas.List.Elements.{Contains-append_left, Contains-append_right}
use Rattle.built_in.specs.Keys.{NameAndType}
use Rattle.loading.specs.Families.{Family}
use Rattle.hierarchy.specs.steps.HierarchyTables.{wanted_in}
use Rattle.hierarchy.specs.steps.MemberKeys.{AreNumbers}
use Rattle.hierarchy.specs.steps.NearestMembers.{AreNearest, rows_of}
use Rattle.hierarchy.specs.steps.Reaches.{Nearest, here, above, nowhere, reach_after, reaching, reaches_of}
use Rattle.hierarchy.specs.steps.Reaches.{class_noted, classes_noted}
use Rattle.hierarchy.specs.declared.member.DeclaredMember.{DeclaredMember}
use Rattle.hierarchy.specs.declared.member_key.MemberKey.{MemberKey}
use Rattle.hierarchy.specs.declared.member_table.MemberTable.{MemberTable}
use Rattle.hierarchy.specs.declared.nearest.NearestMembers.{NearestMembers}
use Rattle.hierarchy.specs.declared.reach_table.Reach.{Reach}
use Rattle.hierarchy.specs.declared.wanted.Wanted.{Wanted}
use Rattle.hierarchy.proofs.UpClassesLemmas.{no_class_declares}
use Rattle.hierarchy.proofs.AscentsOrderLemmas.{in_front}

-- ---- one more reach

classes_noted-push : (row : List Reach) (r : Reach)
    → classes_noted (row ++ r ∷ []) ≡ classes_noted row ++ class_noted r.nearest
classes_noted-push [] r = append-nil (class_noted r.nearest)
classes_noted-push (x ∷ xs) r =
    ap (λ (l : List ℕ). class_noted x.nearest ++ l) (classes_noted-push xs r)
    ∙ sym (append_assoc (class_noted x.nearest) (classes_noted xs) (class_noted r.nearest))

pub noted_next : (row : List Reach) (i : ℕ) → i < length row
    → classes_noted (take i row) ++ class_noted (get_or row i (record { from = 0; nearest = None })).nearest
    ≡ classes_noted (take (i + 1) row)
noted_next row i small =
    let last : Reach = record { from = 0; nearest = None } in
    sym (ap classes_noted (take_more row i last small) ∙ classes_noted-push (take i row) (get_or row i last))

-- ---- each class that declares a member is named

reached : (place : ℕ) (row : List Reach) (before : Option DeclaredMember) (m : DeclaredMember)
    → fold (reach_after place) before row ≡ Some m → (before ≡ Some m) ⊎ Contains (classes_noted row) m.class
reached place [] before m is = inl is
reached place (x ∷ xs) before m is = elim (reached place xs (reach_after place before x) m is) [
  | inl now ↦ by (ltb place x.from) refl now
  | inr later ↦ inr (Contains-append_right (class_noted x.nearest) (classes_noted xs) m.class later)
]
  where
    by : (b : Bool) → ltb place x.from ≡ b → reach_after place before x ≡ Some m
        → (before ≡ Some m) ⊎ Contains (class_noted x.nearest ++ classes_noted xs) m.class
    by true e now = inl (rw e at now)
    by false e now =
        let is : x.nearest ≡ Some m = rw e at now in
        inr (Contains-append_left (class_noted x.nearest) (classes_noted xs) m.class
        (subst (λ (n : Option DeclaredMember). Contains (class_noted n) m.class) (sym is) (in_front m.class [])))

nearest_here : {family : Family} {own : ℕ → Option ℕ} {c k : ℕ} {r : Option DeclaredMember} → Nearest family own c r
    → own c ≡ Some k → r ≡ Some (record { class = c; index = k })
nearest_here {c = c} {k = k} (here {k = j} e) has =
    let both : Some j ≡ Some k = sym e ∙ has in
    let equal : j ≡ k = cc in
    ap (λ (n : ℕ). Some (record { class = c; index = n })) equal
nearest_here {k = k} (above lacks up rest) has = absurd (let clash : None ≡ Some k = sym lacks ∙ has in cc)
nearest_here {k = k} (nowhere lacks up) has = absurd (let clash : None ≡ Some k = sym lacks ∙ has in cc)

pub noted_told : (family : Family) (table : MemberTable) (nearest : NearestMembers) (kind : Wanted)
    (name : NameAndType) (key : MemberKey) (c k : ℕ) → AreNearest family table nearest
    → AreNumbers table.texts name key → wanted_in kind family name c ≡ Some k
    → Contains (classes_noted (reaches_of (rows_of kind nearest.reaches) key)) c
noted_told family table nearest kind name key c k are numbers has = elim (cases_lt c (length family)) [
  | inl small ↦ (let place : ℕ = slice_index_or nearest.places.items c 0 in
      let row : List Reach = reaches_of (rows_of kind nearest.reaches) key in
      let told : Nearest family (wanted_in kind family name) c (reaching row place) =
      (are.told kind key name numbers).tells.told place c (are.places c (are.whole.whole c small)) in
      elim (reached place row None (record { class = c; index = k }) (nearest_here told has)) [
        | inl none ↦ absurd cc
        | inr among ↦ among
      ])
  | inr past ↦
      absurd (let lacks : wanted_in kind family name c ≡ None =
      no_class_declares family kind name c (omega (arith, past)) in
      let clash : None ≡ Some k = sym lacks ∙ has in
      cc)
]
