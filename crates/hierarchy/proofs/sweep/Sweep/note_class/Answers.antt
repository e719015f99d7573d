use Rattle.std.proofs.Common.{◌≡◌, ◌⊎◌, ℕ, Bool, cond, Option, Some, None, slice_get, length, option_copied}
use Rattle.std.proofs.Common.{refl, sym, ap, ◌∙◌, subst, inl, inr, arith}
use Rattle.std.proofs.lemmas.Bool.{cases_lt}
use Rattle.std.proofs.lemmas.Option.{slice_get_read, slice_get_within}
use Rattle.classfile.specs.declared.member.Member.{Member}
use Rattle.built_in.specs.Keys.{NameAndType}
use Rattle.hierarchy.specs.declared.member_key.MemberKey.{MemberKey}
use Rattle.hierarchy.specs.steps.MemberKeys.{AreNumbers}
use Rattle.hierarchy.specs.steps.Reaches.{EndsAt, reaches_of}
use Rattle.hierarchy.specs.steps.Sweeps.{IsNoted, counted, own_in}
use Rattle.hierarchy.proofs.MemberKeysLemmas.{one_key, one_number}
use Rattle.hierarchy.proofs.SweepsLemmas.{counts_or_before, declares, has_file, named_by, own_or_other}
use Rattle.hierarchy.proofs.sweep.Sweep.note_class.Goals as goal

pub note-requires-clause-own : goal.note-requires-clause-own
note-requires-clause-own c = λ name are.
    let s = c.args.self.now in
    let d = c.args.declaring in
    let class = c.args.class in
    let k = c.loop-index.index in
    let ms = c.members-members.result.now in
    let m = c.index-members-index.result in
    let before = c.loop-index.invariant in
    let at : slice_get ms k ≡ Some m = slice_get_read ms (length ms) k m refl (omega arith) c.index-members-index.is in
    let there = sym (ap (λ l. slice_get l k) c.members-members.ensures.value) ∙ at in
    let file = has_file s.wanted s.family.now d k m there in
    let numbers = c.requires.comes.fits.pools d file.0 c.in-Some.pool.now file.1
    (sym c.pool.ensures ∙ ap option_copied c.in-Some.is) in
    let equal : named_by file.0 m ≡ name =
    one_key s.table.now.texts (named_by file.0 m) name c.key-key.result
    (c.key-key.ensures s.table.now.texts file.0 numbers) are in
    let place = λ (b : Bool). cond b (counted s.wanted m.access_flags k) None in
    elim (own_or_other d class) [
      | inl same ↦ elim (counts_or_before s.wanted s.family.now d k file.0 m file.1 there) [
        | inl counts ↦ inr (subst (λ (n : NameAndType). own_in s n class ≡ c.own_place-own.result) equal
            (subst (λ (x : ℕ). own_in s (named_by file.0 m) x ≡ c.own_place-own.result) same.0
            (counts ∙ sym (c.own_place-own.ensures ∙ ap place same.1))))
        | inr first ↦ inl (subst (IsNoted s c.args.place c.loop-index.rows) (first.4 ∙ equal)
            (before.noted file.0 first.0 first.1 numbers first.2
            (ap (λ l. slice_get l first.0) c.members-members.ensures.value ∙ first.3)))
      ]
      | inr other ↦ elim c.requires.own [
        | inl same ↦ absurd (other.0 same)
        | inr noted ↦ elim (noted name) [
          | inl was ↦ inl (λ q named. before.notes.keeps q (was q named))
          | inr none ↦ inr (none ∙ sym (c.own_place-own.ensures ∙ ap place other.1))
        ]
      ]
    ]

pub loop-index-preserved : goal.loop-index-preserved
loop-index-preserved c =
    let s = c.args.self.now in
    let texts = s.table.now.texts in
    let k = c.loop-index.index in
    let ms = c.members-members.result.now in
    let item = c.index-members-index.result in
    let before = c.loop-index.invariant in
    let e = c.in_ok-note.ensures in
    let at : slice_get ms k ≡ Some item =
    slice_get_read ms (length ms) k item refl (omega arith) c.index-members-index.is in
    record {
      notes = record { comes = e.notes.comes; keeps = λ q ends. e.notes.keeps q (before.notes.keeps q ends) };
      noted = λ f i m numbers small there q are. elim (cases_lt i k) [
        | inl less ↦ e.notes.keeps q (before.noted f i m numbers less there q are)
        | inr more ↦ (let place : i ≡ k = omega (arith, more, small) in
            let both : Some item ≡ Some m = sym at ∙ ap (slice_get ms) (sym place) ∙ there in
            let same : item ≡ m = cc in
            let named = subst (λ (x : Member). AreNumbers texts (named_by f x) c.key-key.result) same
            (c.key-key.ensures texts f numbers) in
            subst (λ (x : MemberKey). EndsAt (reaches_of c.note.new.rows x) c.args.place)
            (one_number texts (named_by f m) c.key-key.result q e.notes.comes.fits.distinct named are) e.noted)
      ];
    }

pub returns-clause-noted : goal.returns-clause-noted
returns-clause-noted c = λ name. by name (own name) refl
  where
    own : NameAndType → Option ℕ
    own name = own_in c.args.self.now name c.args.declaring

    by : (name : NameAndType) (o : Option ℕ) → own name ≡ o
        → IsNoted c.args.self.now c.args.place c.loop-index.rows name ⊎ (own name ≡ None)
    by name None at = inr at
    by name (Some k) at =
        let s = c.args.self.now in
        let d = declares s.wanted s.family.now name c.args.declaring k at in
        let there = sym c.pool.ensures ∙ ap option_copied c.in-Some.is in
        let numbers = c.requires.comes.fits.pools c.args.declaring d.0 c.in-Some.pool.now d.3 there in
        let read = ap (λ l. slice_get l d.1) c.members-members.ensures.value ∙ d.4 in
        inl (subst (IsNoted s c.args.place c.loop-index.rows) d.5
        (c.loop-index.invariant.noted d.0 d.1 d.2 numbers
        (omega (arith, slice_get_within c.members-members.result.now d.1 d.2 read)) read))
