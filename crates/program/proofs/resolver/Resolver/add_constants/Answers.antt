use Rattle.std.proofs.Common.{◌≡◌, ◌<◌, ◌≤◌, List, length, Some, slice_get, refl, ap, subst, sym, ◌∙◌, arith}
use Rattle.std.proofs.lemmas.List.{length_push, take_all}
use Rattle.std.specs.List.{flat_map}
use Rattle.program.specs.Strings.{string_of}
use Rattle.program.specs.steps.Ahead.{AreAhead}
use Rattle.program.specs.steps.GrowingStrings.{Gains}
use Rattle.classfile.specs.declared.constant.Constant.{Constant}
use Rattle.program.proofs.RuntimePoolLemmas.{constants_next}
use Rattle.program.proofs.StringsLemmas.{gains_next, gains_nothing}
use Rattle.program.proofs.ZipLemmas.{item_at}
use Rattle.program.proofs.resolver.Resolver.add_constants.Goals as goal

pub loop-index-preserved : goal.loop-index-preserved
loop-index-preserved c =
    let i = c.loop-index.index in
    let f = c.args.self.now.file.now in
    let constant = c.index-constants-index.result in
    let pool = c.loop-index.growing.pool in
    let within : i < length c.constants-constants.result.now = omega arith in
    let here : slice_get f.constants i ≡ Some constant =
    subst (λ (xs : List Constant). slice_get xs i ≡ Some constant) c.constants-constants.ensures.value
    (item_at c.constants-constants.result.now i constant within c.index-constants-index.is) in
    let added = c.in_ok-add_constant.ensures.held in
    record {
      members = c.in_ok-add_constant.ensures.kept ∙ c.loop-index.invariant.members;
      ahead = c.in_ok-add_constant.ensures.ahead ∙ c.loop-index.invariant.ahead;
      count = omega (arith, ap length added.2, length_push pool added.0);
      pool = constants_next c.args.self.now.hierarchy.now.family c.loop-index.strings
          c.add_constant.new.strings f pool c.add_constant.new.growing.pool i constant
          added.0 c.loop-index.invariant.count c.in_ok-add_constant.ensures.gains.keeps here added.1
          c.loop-index.invariant.pool added.2;
      gains = gains_next (string_of f) c.constants-constants.result.now i constant c.args.strings.now
          c.loop-index.strings c.add_constant.new.strings within c.index-constants-index.is c.loop-index.invariant.gains
          c.in_ok-add_constant.ensures.gains;
    }

pub add_constant-requires-clause-ahead : goal.add_constant-requires-clause-ahead
add_constant-requires-clause-ahead c =
    subst (AreAhead c.args.self.now.hierarchy.now.family c.args.self.now.file.now)
    (sym c.loop-index.invariant.ahead) c.requires.ahead

pub add_constant-requires-clause-here : goal.add_constant-requires-clause-here
add_constant-requires-clause-here c =
    let i = c.loop-index.index in
    let constant = c.index-constants-index.result in
    subst (λ (xs : List Constant). slice_get xs i ≡ Some constant) c.constants-constants.ensures.value
    (item_at c.constants-constants.result.now i constant (omega arith) c.index-constants-index.is)

pub loop-index-init : goal.loop-index-init
loop-index-init c = record {
  members = refl;
  ahead = refl;
  count = rw c.requires.empty refl;
  pool = rw c.requires.empty (λ index constant held at also. absurd cc);
  gains = gains_nothing c.args.strings.now;
}

pub returns-clause-pool : goal.returns-clause-pool
returns-clause-pool c = record {
  count = omega (arith, c.loop-index.invariant.count, ap length c.constants-constants.ensures.value);
  each = c.loop-index.invariant.pool;
}

pub returns-clause-gains : goal.returns-clause-gains
returns-clause-gains c =
    let f = c.args.self.now.file.now in
    let constants = c.constants-constants.result.now in
    let whole : length constants ≤ c.loop-index.index = omega arith in
    let all : Gains c.args.strings.now (flat_map (string_of f) constants) c.loop-index.strings =
    rw (take_all c.loop-index.index constants whole) at c.loop-index.invariant.gains in
    subst (λ (xs : List Constant). Gains c.args.strings.now (flat_map (string_of f) xs) c.loop-index.strings)
    c.constants-constants.ensures.value all
