use Rattle.std.proofs.Common.{◌≡◌, ◌+◌, ◌↔◌, ◌⊎◌, ℕ, refl, sym, subst, arith, ◌∙◌}
use Rattle.hierarchy.specs.steps.DeclarationBits.{Has, HasKey, IsAt, IsCoded}
use Rattle.hierarchy.specs.declared.declarations.Declaration.{Declaration}
use Rattle.hierarchy.specs.declared.member_key.MemberKey.{MemberKey}
use Rattle.hierarchy.proofs.AmongLemmas.{read_at}
use Rattle.hierarchy.proofs.MaskLemmas.{bits_next, bits_past, lost_at}
use Rattle.hierarchy.proofs.WordLemmas.{no_bit}
use Rattle.hierarchy.proofs.masks.Mask.of_key.Goals as goal
use Rattle.hierarchy.proofs.masks.Mask.of_key.Goals.{in-Some, in_default}

pub loop-bit-init : goal.loop-bit-init
loop-bit-init c = record {
  key = refl;
  same = λ n small. (λ has. absurd (no_bit n has), λ there. absurd (omega (arith, there.0)));
  coded = λ n small. (λ has. absurd (no_bit n has), λ there. absurd (omega (arith, there.0)));
}

pub loop-bit-preserved : goal.loop-bit-preserved
loop-bit-preserved c =
    let declared = c.args.declared.now in
    let start = c.args.start in
    let bit = c.loop-bit.bit in
    let key = c.args.key in
    let was = c.loop-bit.invariant in
    elim c.match-get.branch [
      | in-Some w ↦
          let e : Declaration = w.in-Some.declaration.now in
          let at = read_at declared (start + bit) c.get.result w.in-Some.declaration c.get.ensures.lookup.1
          c.get.ensures.lookup.0 w.in-Some.is in
          let same = bits_next declared start bit (HasKey key) c.loop-bit.mask.same was.same w.and-mask.result.same e at
          (subst (λ (k : MemberKey). (n : ℕ) → Has w.and-mask.result.same n
          ↔ (Has c.loop-bit.mask.same n ⊎ ((n ≡ bit) × HasKey k e))) was.key w.and-mask.ensures.same) in
          let coded = bits_next declared start bit (IsCoded key) c.loop-bit.mask.coded was.coded w.and-mask.result.coded
          e at
          (subst (λ (k : MemberKey). (n : ℕ) → Has w.and-mask.result.coded n
          ↔ (Has c.loop-bit.mask.coded n ⊎ ((n ≡ bit) × IsCoded k e))) was.key
          w.and-mask.ensures.coded) in
          rw w.mask-is (record { key = w.and-mask.ensures.key ∙ was.key; same = same; coded = coded })
      | in_default w ↦
          let none = lost_at declared (start + bit) c.get.result c.get.ensures.lookup.0 w.in_default.not-Some in
          rw w.mask-is (record {
            key = was.key;
            same = bits_past declared start bit (HasKey key) c.loop-bit.mask.same was.same none;
            coded = bits_past declared start bit (IsCoded key) c.loop-bit.mask.coded was.coded none;
          })
    ]

pub returns : goal.returns
returns c =
    let was = c.loop-bit.invariant in
    let mask = c.loop-bit.mask in
    record {
      key = was.key;
      mask = record {
        same = λ n small. subst (λ (k : MemberKey). Has mask.same n
            ↔ IsAt c.args.declared.now (c.args.start + n) (HasKey k)) (sym was.key) (
              λ has. ((was.same n small).0 has).1,
              λ there. (was.same n small).1 (omega (arith, small, c.loop-bit-test.false), there),
            );
        coded = λ n small. subst (λ (k : MemberKey). Has mask.coded n
            ↔ IsAt c.args.declared.now (c.args.start + n) (IsCoded k)) (sym was.key) (
              λ has. ((was.coded n small).0 has).1,
              λ there. (was.coded n small).1 (omega (arith, small, c.loop-bit-test.false), there),
            );
      };
    }
