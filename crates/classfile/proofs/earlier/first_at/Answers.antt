use Rattle.std.proofs.Common.{◌≡◌, ◌<◌, length, None, Some, get_or, sym, ◌∙◌, arith}
use Rattle.std.proofs.lemmas.List.{get_or-set_same, get_or_default}
use Rattle.classfile.specs.Lookup.{utf8_of}
use Rattle.classfile.proofs.Utf8Lemmas.{text_is_within, firsts_after}
use Rattle.classfile.proofs.earlier.first_at.Goals as goal

pub index-requires : goal.index-requires
index-requires c =
    let within : c.args.index < length c.args.pool.now = text_is_within c.args.pool.now c.args.index c.requires.text in
    omega arith

pub returns-in-Some-clause-first : goal.returns-in-Some-clause-first
returns-in-Some-clause-first c =
    let within : c.args.index < length c.args.pool.now = text_is_within c.args.pool.now c.args.index c.requires.text in
    let inside : c.args.index < length c.args.firsts.now.items = omega arith in
    let read : c.index.result.now ≡ get_or c.args.firsts.now.items c.args.index c.index.result.now =
    rw c.from.ensures at c.index.ensures
    in
    get_or_default c.args.firsts.now.items c.args.index None c.index.result.now inside ∙ sym read ∙ c.in-Some.is

pub index_mut-requires : goal.index_mut-requires
index_mut-requires c =
    let within : c.args.index < length c.args.pool.now = text_is_within c.args.pool.now c.args.index c.requires.text in
    omega arith

pub returns-clause-first : goal.returns-clause-first
returns-clause-first c =
    let within : c.args.index < length c.args.pool.now = text_is_within c.args.pool.now c.args.index c.requires.text in
    let inside : c.args.index < length c.args.firsts.now.items = omega arith in
    rw c.from-2.ensures (get_or-set_same c.args.firsts.now.items c.args.index (Some c.in_ok-first.first) None inside)

pub returns-clause-firsts : goal.returns-clause-firsts
returns-clause-firsts c =
    let within : c.args.index < length c.args.pool.now = text_is_within c.args.pool.now c.args.index c.requires.text in
    let inside : c.args.index < length c.args.firsts.now.items = omega arith in
    let text : utf8_of c.args.pool.now c.args.index ≡ Some c.in-Some-utf8_of.text.now =
    c.in-Some-utf8_of.ensures.value in
    rw c.from-2.ensures
    (firsts_after c.args.pool.now c.args.firsts.now.items _ _ c.in-Some-utf8_of.text.now c.args.index
    c.in_ok-first.first c.requires.firsts text c.in_ok-first.ensures.first inside c.in_ok-first.ensures.after)
