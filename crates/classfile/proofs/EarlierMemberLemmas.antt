-- The members so far are found by the first indices of their names and descriptors.
use Rattle.std.proofs.Common.{◌≡◌, ℕ, Bool, true, false, cond, ◌&&◌, ◌||◌, eqb, List, [], ◌∷◌, ◌++◌}
use Rattle.std.proofs.Common.{Option, Some, None, is_some, refl, sym, ap, ◌∙◌}
use Rattle.std.specs.List.{list_any, list_all}
use Rattle.std.specs.Ordering.{nat_cmp, is_eq}
use Rattle.std.specs.Cmp.{tied_then}
use Rattle.std.specs.BTreeSet as sorted
use Rattle.std.specs.BTreeSet.{BTreeSet, contains}
use Rattle.std.proofs.lemmas.List.Folds.{list_any-append, list_all-append}
use Rattle.classfile.specs.declared.constant.Constant.{Constant}
use Rattle.classfile.specs.declared.member.Member.{Member}
use Rattle.std.specs.Prelude.{Result, Ok, Err, IfOk, if◌then◌else◌}
use Rattle.std.specs.Int.{w16}
use Rattle.std.proofs.lemmas.Bool.{and_parts}
use Rattle.classfile.specs.declared.fault.ClassFault.{ClassFault}
use Rattle.classfile.specs.declared.fault.ClassFault.TheVariants as faults
use Rattle.classfile.specs.declared.attribute.Attribute.{Attribute}
use Rattle.classfile.specs.declared.member.MemberKind.{MemberKind}
use Rattle.classfile.specs.reading.Numbers.{◌>>=◌, number_at}
use Rattle.classfile.specs.Gives.{Gives}
use Rattle.classfile.specs.reading.LookupTests.{has_utf8, same_utf8}
use Rattle.classfile.specs.reading.Code.{utf8_index_at}
use Rattle.classfile.specs.reading.Members.{is_like, is_declared, has_descriptor, descriptor_at, attributes_at}
use Rattle.classfile.specs.Members.{owner_of}
use Rattle.classfile.specs.reading.Members.{lacks_code, member_of, member_body_at}
use Rattle.classfile.specs.reading.Earlier.{Utf8Map, find_utf8, first_of, AreFirsts, Grows, is_first}
use Rattle.classfile.specs.reading.Earlier.{has_firsts, was_asked, pair_cmp, FindsMembers}
use Rattle.classfile.proofs.Utf8Lemmas.{equal_numbers, same_first}

-- ---- what was asked for stays so

first_stays : (old new : List (Option ℕ)) (index first : ℕ) (o : Option ℕ) → first_of old index ≡ o → is_some o ≡ true
    → Grows old new
    → first_of new index ≡ first_of old index
first_stays old new index first None e asked grows = absurd cc
first_stays old new index first (Some n) e asked grows = grows index n e ∙ sym e

member_stays : (old new : List (Option ℕ)) (m : Member) → was_asked old m ≡ true → Grows old new
    → (first_of new m.name ≡ first_of old m.name) × (first_of new m.descriptor ≡ first_of old m.descriptor)
member_stays old new m asked grows =
    let parts = and_parts (is_some (first_of old m.name)) (is_some (first_of old m.descriptor)) asked in (
      first_stays old new m.name 0 (first_of old m.name) refl parts.0 grows,
      first_stays old new m.descriptor 0
          (first_of old m.descriptor) refl parts.1 grows,
    )

pub asked_stays : (old new : List (Option ℕ)) (members : List Member) → Grows old new
    → list_all (was_asked old) members ≡ true
    → list_all (was_asked new) members ≡ true
asked_stays old new [] grows asked = refl
asked_stays old new (m ∷ ms) grows asked =
    let parts = and_parts (was_asked old m) (list_all (was_asked old) ms) asked in
    let same = member_stays old new m parts.0 grows in
    let one : was_asked new m ≡ true = rw (same.0, same.1) parts.0 in
    let others : list_all (was_asked new) ms ≡ true = asked_stays old new ms grows parts.1 in
    rw (one, others) refl

pub firsts_stay : (old new : List (Option ℕ)) (name descriptor : ℕ) (members : List Member) → Grows old new
    → list_all (was_asked old) members ≡ true
    → list_any (has_firsts old name descriptor) members ≡ list_any (has_firsts new name descriptor) members
firsts_stay old new name descriptor [] grows asked = refl
firsts_stay old new name descriptor (m ∷ ms) grows asked =
    let parts = and_parts (was_asked old m) (list_all (was_asked old) ms) asked in
    let same = member_stays old new m parts.0 grows in
    let one : has_firsts new name descriptor m ≡ has_firsts old name descriptor m = rw (same.0, same.1) refl in
    let others : list_any (has_firsts old name descriptor) ms
    ≡ list_any (has_firsts new name descriptor) ms = firsts_stay old new name descriptor ms grows parts.1 in
    rw (one, others) refl

-- ---- by first indices and by texts

first_is_like : (pool : List Constant) (firsts : List (Option ℕ)) (find : List ℕ → Option ℕ) (i j b : ℕ) (o : Option ℕ)
    → AreFirsts pool firsts find → first_of firsts i ≡ o → is_some o ≡ true
    → first_of firsts j ≡ Some b → is_first b o ≡ same_utf8 pool i j
first_is_like pool firsts find i j b None kept ei asked ej = absurd cc
first_is_like pool firsts find i j b (Some a) kept ei asked ej = same_first pool firsts find i j a b kept ei ej

pub declared_by_firsts : (pool : List Constant) (firsts : List (Option ℕ)) (find : List ℕ → Option ℕ)
    (name descriptor a b : ℕ) (members
    : List Member) → AreFirsts pool firsts find
    → list_all (was_asked firsts) members ≡ true → first_of firsts name ≡ Some a → first_of firsts descriptor ≡ Some b
    → list_any (has_firsts firsts a b) members ≡ is_declared pool name descriptor members
unfolding is_declared
declared_by_firsts pool firsts find name descriptor a b [] kept asked en ed = refl
declared_by_firsts pool firsts find name descriptor a b (m ∷ ms) kept asked en ed =
    let parts = and_parts (was_asked firsts m) (list_all (was_asked firsts) ms) asked in
    let known = and_parts (is_some (first_of firsts m.name)) (is_some (first_of firsts m.descriptor)) parts.0 in
    let names : is_first a (first_of firsts m.name) ≡ same_utf8 pool m.name name =
    first_is_like pool firsts find m.name name a (first_of
    firsts m.name) kept refl known.0 en in
    let types : is_first b (first_of firsts m.descriptor) ≡ same_utf8 pool m.descriptor descriptor =
    first_is_like pool firsts find
    m.descriptor descriptor b (first_of firsts m.descriptor) kept refl known.1 ed in
    let others : list_any (has_firsts firsts a b) ms ≡ list_any (is_like pool name descriptor) ms =
    declared_by_firsts pool firsts find
    name descriptor a b ms kept parts.1 en ed in
    rw (names, types, others) refl

-- ---- one more member

equal_pairs : (a b c d : ℕ) → is_eq (pair_cmp (a, b) (c, d)) ≡ (eqb a c && eqb b d)
equal_pairs a b c d = sym (tied_then (nat_cmp a c) (nat_cmp b d)) ∙ rw (equal_numbers a c, equal_numbers b d) refl

or_last : (p q : Bool) → cond p true q ≡ (q || (p || false))
or_last true true = refl
or_last true false = refl
or_last false true = refl
or_last false false = refl

pub finds_one_more : (pool : List Constant) (old new : List (Option ℕ)) (by_utf8 after : Utf8Map)
    (pairs more : BTreeSet (ℕ × ℕ))
    (members : List Member) (m : Member) (a b : ℕ)
    → FindsMembers pool old by_utf8 pairs members → AreFirsts pool new (find_utf8 after) → Grows old new
    → first_of new m.name ≡ Some a
    → first_of new m.descriptor ≡ Some b
    → sorted.Updates pair_cmp pairs more (a, b) true → FindsMembers pool new after more (members ++ m ∷ [])
finds_one_more pool old new by_utf8 after pairs more members m a b finds kept grows en ed updates = record {
  texts = kept;
  asked =
      let here : list_all (was_asked new) (m ∷ []) ≡ true = rw (en, ed) refl in
      let before : list_all (was_asked new) members ≡ true = asked_stays old new members grows finds.asked in
      list_all-append (was_asked new) members (m ∷ []) ∙ rw (before, here) refl;
  each = λ c d.
      let one : contains pair_cmp more (c, d) ≡ cond (eqb a c && eqb b d) true (contains pair_cmp pairs (c, d)) =
      updates.0 (c, d) ∙ ap (λ (p : Bool). cond p true (contains pair_cmp pairs (c, d))) (equal_pairs a b c d) in
      let before : contains pair_cmp pairs (c, d) ≡ list_any (has_firsts new c d) members = finds.each c d
      ∙ firsts_stay old new c d members grows finds.asked in
      let here : has_firsts new c d m ≡ (eqb a c && eqb b d) = rw (en, ed) refl in
      one ∙ or_last (eqb a c && eqb b d) (contains pair_cmp pairs (c, d))
      ∙ rw (before, ← here) (sym (list_any-append (has_firsts new c d) members (m ∷ [])));
}

-- ---- what a member was read from

ok_if_true : {X : Type 0} (b : Bool) (x y : X) (e : ClassFault) → (if b then Ok x else Err e) ≡ Ok y → (b ≡ true)
    × (x ≡ y)
ok_if_true true x y e h = (refl, cc)
ok_if_true false x y e h = absurd cc

ok_unless_true : {X : Type 0} (b : Bool) (x y : X) (e : ClassFault) → (if b then Err e else Ok x) ≡ Ok y → x ≡ y
ok_unless_true true x y e h = absurd cc
ok_unless_true false x y e h = cc

text_by_read : (pool : List Constant) (fault : ClassFault) (read : Result (ℕ × List ℕ) ClassFault) (index : ℕ)
    (rest : List ℕ)
    → (read >>= λ x. if has_utf8 pool x.0 then Ok x else Err fault) ≡ Ok (index, rest) → has_utf8 pool index ≡ true
text_by_read pool fault (Err e) index rest h = absurd cc
text_by_read pool fault (Ok x) index rest h =
    let parts = ok_if_true (has_utf8 pool x.0) x (index, rest) fault h in
    let same : x.0 ≡ index = ap (λ z. z.0) parts.1 in
    rw (← same) parts.0

pub utf8_index_has_utf8 : (pool : List Constant) (total : ℕ) (bytes : List ℕ) (index : ℕ) (rest : List ℕ)
    → utf8_index_at pool total bytes ≡ Ok (index, rest) → has_utf8 pool index ≡ true
utf8_index_has_utf8 pool total bytes index rest h = text_by_read pool _ (number_at w16 total bytes) index rest h

descriptor_by_read : (kind : MemberKind) (pool : List Constant) (read : Result (ℕ × List ℕ) ClassFault) (index : ℕ)
    (rest : List ℕ)
    → ((i : ℕ) (after : List ℕ) → read ≡ Ok (i, after) → has_utf8 pool i ≡ true)
    → (read >>= λ i. if has_descriptor kind pool i.0 then Ok i else Err (faults.Descriptor i.0)) ≡ Ok (index, rest)
    → has_utf8 pool index
    ≡ true
descriptor_by_read kind pool (Err e) index rest text h = absurd cc
descriptor_by_read kind pool (Ok x) index rest text h =
    let parts = ok_if_true (has_descriptor kind pool x.0) x (index, rest) (faults.Descriptor x.0) h in
    let same : x.0 ≡ index = ap (λ z. z.0) parts.1 in
    rw (← same) (text x.0 x.1 refl)

pub descriptor_has_utf8 : (kind : MemberKind) (pool : List Constant) (total : ℕ) (bytes : List ℕ) (index : ℕ)
    (rest : List ℕ)
    → descriptor_at kind pool total bytes ≡ Ok (index, rest) → has_utf8 pool index ≡ true
unfolding descriptor_at
descriptor_has_utf8 kind pool total bytes index rest h =
    descriptor_by_read kind pool (utf8_index_at pool total bytes) index rest
    (λ i after e. utf8_index_has_utf8 pool total bytes i after
    e) h

member_by_read : (kind : MemberKind) (at flags name descriptor : ℕ) (read : Result (List Attribute × List ℕ) ClassFault)
    (m : Member)
    (rest : List ℕ)
    → ◌>>=◌ {B = Member × List ℕ} read (λ found. if lacks_code kind flags found.0 then Err (faults.Attribute at) else Ok
    (member_of flags name descriptor found.0, found.1)) ≡ Ok (m, rest)
    → (m.name ≡ name) × (m.descriptor ≡ descriptor)
member_by_read kind at flags name descriptor (Err e) m rest h = absurd cc
member_by_read kind at flags name descriptor (Ok found) m rest h =
    let same = ok_unless_true {X = Member × List ℕ} (lacks_code kind flags found.0)
    (member_of flags name descriptor found.0, found.1) (m, rest)
    (faults.Attribute at) h in
    let is : member_of flags name descriptor found.0 ≡ m = ap (λ z. z.0) same in
    (sym (ap (λ (z : Member). z.name) is), sym (ap (λ (z : Member). z.descriptor) is))

pub member_is_named : (kind : MemberKind) (pool : List Constant) (total at flags name descriptor : ℕ) (bytes : List ℕ)
    (m : Member) (rest
    : List ℕ)
    → member_body_at kind pool total at flags name descriptor bytes ≡ Ok (m, rest) → (m.name ≡ name)
    × (m.descriptor ≡ descriptor)
unfolding member_body_at
member_is_named kind pool total at flags name descriptor bytes m rest h =
    member_by_read kind at flags name descriptor (attributes_at pool (owner_of kind flags descriptor) total bytes) m
    rest h

-- what holds of each member with this name and descriptor holds of the one that is read
pub named_member : {R : Type 0} (view : R → List ℕ) (read : Result (Member × R) ClassFault) (kind : MemberKind)
    (pool : List Constant)
    (total at flags name descriptor : ℕ) (bytes : List ℕ) (P : Member → Type 0)
    → Gives (λ x. (x.0, view x.1)) read (member_body_at kind pool total at flags name descriptor bytes)
    → ((m : Member) → m.name ≡ name → m.descriptor ≡ descriptor → P m) → IfOk read (λ x. P x.0)
named_member view (Err e) kind pool total at flags name descriptor bytes P h each = tt
named_member view (Ok x) kind pool total at flags name descriptor bytes P h each =
    let named = member_is_named kind pool total at flags name descriptor bytes x.0 (view x.1) h in
    each x.0 named.0 named.1
