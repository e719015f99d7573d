-- Class files have one fault, or none.
use Rattle.std.proofs.Common.{◌≡◌, ℕ, zero, suc, ◌≤◌, inl, inr, List, Some, refl, sym, ap, subst, ◌∙◌, arith}
use Rattle.std.specs.List.{slice_get}
use Rattle.classfile.specs.ClassFile.{ClassFile}
use Rattle.classfile.specs.Units.{units_text}
use Rattle.loading.specs.declared.fault.BadParent.{BadParent}
use Rattle.loading.specs.declared.fault.BadParent.TheVariants as bad
use Rattle.loading.specs.declared.fault.LinkFault.{LinkFault}
use Rattle.loading.specs.declared.fault.LinkFault.TheVariants as faults
use Rattle.loading.specs.Files.{HasFile, IsTwice, IsTaken, HasBadParent, HasBadParents, HasLeastBadParent, IsOnCycle}
use Rattle.loading.specs.Files.{IsLeast, No, LinkFails, Links, bad_parent_number}
use Rattle.loading.specs.Files.{limit, twice, taken, parent, cycle}
use Rattle.loading.proofs.NamesLemmas.{same_names}
use Rattle.loading.proofs.LinkingPlaceLemmas.{place_of, one_of_three}
use Rattle.loading.proofs.UnitsLemmas.{same_units}

least_same : (P : List ℕ → Type 0) (a b : List ℕ) → IsLeast P a → IsLeast P b → a ≡ b
least_same P a b p q = same_names a b (q.1 a p.0) (p.1 b q.0)

pub not_both : (files : List ClassFile) (x : LinkFault) → Links files → LinkFails files x → ⊥
not_both files x l (limit many) = many l.few
not_both files x l (twice {name} few least) = l.distinct (units_text name) least.0
not_both files x l (taken {name} few distinct least) = l.free (units_text name) least.0
not_both files x l (parent {name} few distinct free least given kind) = l.parents (units_text name) least.0
not_both files x l (cycle {name} few distinct free parents least) = l.acyclic (units_text name) least.0

-- two files of one name are one, where none has it twice
one_given : (files : List ClassFile) (name : List ℕ) (f g : ClassFile) → No (IsTwice files) → HasFile files name f
    → HasFile files name g → f ≡ g
one_given files name f g distinct (in-f, is-f) (in-g, is-g) =
    let p = place_of files f in-f in
    let q = place_of files g in-g in
    elim (one_of_three p.0 q.0) [
      | inl less ↦ absurd (distinct name (p.0, q.0, f, g, less, p.1, q.1, is-f, is-g))
      | inr rest ↦ elim rest [
        | inl same ↦ (let both : Some f ≡ Some g = sym p.1 ∙ ap (λ (k : ℕ). slice_get files k) same ∙ q.1 in cc)
        | inr more ↦ absurd (distinct name (q.0, p.0, g, f, more, q.1, p.1, is-g, is-f))
      ]
    ]

kind_at : ℕ → BadParent
kind_at (suc zero) = bad.NoSuperclass
kind_at (suc (suc zero)) = bad.UnknownSuperclass
kind_at (suc (suc (suc zero))) = bad.NoClass
kind_at (suc (suc (suc (suc zero)))) = bad.NotObject
kind_at (suc (suc (suc (suc (suc zero))))) = bad.UnknownInterface
kind_at n = bad.NoInterface

kind_back : (k : BadParent) → kind_at (bad_parent_number k) ≡ k
unfolding kind_at
kind_back bad.NoSuperclass = refl
kind_back bad.UnknownSuperclass = refl
kind_back bad.NoClass = refl
kind_back bad.NotObject = refl
kind_back bad.UnknownInterface = refl
kind_back bad.NoInterface = refl

same_kind : (k l : BadParent) → bad_parent_number k ≡ bad_parent_number l → k ≡ l
same_kind k l e = sym (kind_back k) ∙ ap kind_at e ∙ kind_back l

same_parent : (files : List ClassFile) (a b : List ℕ) (k l : BadParent) (f g : ClassFile) → No (IsTwice files)
    → IsLeast (HasBadParents files) (units_text a)
    → IsLeast (HasBadParents files) (units_text b) → HasFile files (units_text a) f → HasFile files (units_text b) g
    → HasLeastBadParent files f k
    → HasLeastBadParent files g l → faults.Parent a k ≡ faults.Parent b l
same_parent files a b k l f g distinct least-a least-b given-f given-g kind-f kind-g =
    let text : units_text a ≡ units_text b =
    least_same (HasBadParents files) (units_text a) (units_text b) least-a least-b in
    let name : a ≡ b = same_units a b text in
    let file : f ≡ g =
    one_given files (units_text b) f g distinct (subst (λ (z : List ℕ). HasFile files z f) text given-f) given-g in
    let low : bad_parent_number k ≤ bad_parent_number l =
    kind-f.1 l (subst (λ (z : ClassFile). HasBadParent files z l) (sym file) kind-g.0) in
    let high : bad_parent_number l ≤ bad_parent_number k =
    kind-g.1 k (subst (λ (z : ClassFile). HasBadParent files z k) file kind-f.0) in
    let kind : k ≡ l = same_kind k l (omega arith) in
    cc

pub one_fault : (files : List ClassFile) (x y : LinkFault) → LinkFails files x → LinkFails files y → x ≡ y
one_fault files x y (limit many) (limit other) = refl
one_fault files x y (limit many) (twice few least) = absurd (many few)
one_fault files x y (limit many) (taken few distinct least) = absurd (many few)
one_fault files x y (limit many) (parent few distinct free least given kind) = absurd (many few)
one_fault files x y (limit many) (cycle few distinct free parents least) = absurd (many few)
one_fault files x y (twice few least) (limit many) = absurd (many few)
one_fault files x y (twice {name = a} few least) (twice {name = b} other more) =
    ap (λ (z : List ℕ). faults.Twice z)
    (same_units a b (least_same (IsTwice files) (units_text a) (units_text b) least more))
one_fault files x y (twice {name} few least) (taken other distinct more) = absurd (distinct (units_text name) least.0)
one_fault files x y (twice {name} few least) (parent other distinct free more given kind) =
    absurd (distinct (units_text name) least.0)
one_fault files x y (twice {name} few least) (cycle other distinct free parents more) =
    absurd (distinct (units_text name) least.0)
one_fault files x y (taken few distinct least) (limit many) = absurd (many few)
one_fault files x y (taken few distinct least) (twice {name} other more) = absurd (distinct (units_text name) more.0)
one_fault files x y (taken {name = a} few distinct least) (taken {name = b} other apart more) =
    ap (λ (z : List ℕ). faults.BuiltIn z)
    (same_units a b (least_same (IsTaken files) (units_text a) (units_text b) least more))
one_fault files x y (taken {name} few distinct least) (parent other apart free more given kind) =
    absurd (free (units_text name) least.0)
one_fault files x y (taken {name} few distinct least) (cycle other apart free parents more) =
    absurd (free (units_text name) least.0)
one_fault files x y (parent few distinct free least given kind) (limit many) = absurd (many few)
one_fault files x y (parent few distinct free least given kind) (twice {name} other more) =
    absurd (distinct (units_text name) more.0)
one_fault files x y (parent few distinct free least given kind) (taken {name} other apart more) =
    absurd (free (units_text name) more.0)
one_fault files x y (parent {name = a} {kind = k} {f} few distinct free least given kind)
    (parent {name = b} {kind = l} {f = g} other apart loose more handed sort) =
    same_parent files a b k l f g distinct least more given handed kind sort
one_fault files x y (parent {name} few distinct free least given kind) (cycle other apart loose parents more) =
    absurd (parents (units_text name) least.0)
one_fault files x y (cycle few distinct free parents least) (limit many) = absurd (many few)
one_fault files x y (cycle few distinct free parents least) (twice {name} other more) =
    absurd (distinct (units_text name) more.0)
one_fault files x y (cycle few distinct free parents least) (taken {name} other apart more) =
    absurd (free (units_text name) more.0)
one_fault files x y (cycle few distinct free parents least) (parent {name} other apart loose more given kind) =
    absurd (parents (units_text name) more.0)
one_fault files x y (cycle {name = a} few distinct free parents least)
    (cycle {name = b} other apart loose fathers more) =
    ap (λ (z : List ℕ). faults.Circle z)
    (same_units a b (least_same (IsOnCycle files) (units_text a) (units_text b) least more))
