use Rattle.std.proofs.Common.{inr}
use Rattle.image_parser.proofs.AllRegionsLemmas.{is_nameless, left_over}
use Rattle.image_parser.proofs.RegionsHeldLemmas.{nameless_told, shown_fails, shown_held}
use Rattle.image_parser.proofs.regions.whole.Goals as goal

pub returns-then-not-is_done-clause-fault : goal.returns-then-not-is_done-clause-fault
returns-then-not-is_done-clause-fault c P held =
    inr (left_over c.args.version P.family c.args.bytes.now c.args.rest.now held.told held.begins
    (λ e. let on = c.is_done.ensures.1 e in let off = c.if-not-is_done.true in cc))

pub returns-in-Some-clause-fault : goal.returns-in-Some-clause-fault
returns-in-Some-clause-fault c P held =
    inr (is_nameless c.args.version P.family c.args.bytes.now c.args.rest.now held.told c.in-Some.class held.begins
    (c.is_done.ensures.0 (let on = c.if-not-is_done.false in cc))
    (nameless_told c.args.version P c.args.program.now c.classes-classes.ensures.fits c.args.bytes.now c.args.rest.now
    c.args.regions held c.in-Some.class c.in-Some.ensures))

pub returns-in-None-clause-text : goal.returns-in-None-clause-text
returns-in-None-clause-text c P held =
    shown_held c.args.version P c.args.program.now c.classes-classes.ensures.fits c.args.bytes.now c.args.rest.now
    c.args.regions held c.shown.result (c.is_done.ensures.0 (let on = c.if-not-is_done.false in cc)) c.in-None.ensures
    c.shown.ensures.shown

pub returns-in-None-clause-fault : goal.returns-in-None-clause-fault
returns-in-None-clause-fault c P held =
    shown_fails c.args.version P c.args.program.now c.classes-classes.ensures.fits c.args.bytes.now c.args.rest.now
    c.args.regions held c.shown.result (c.is_done.ensures.0 (let on = c.if-not-is_done.false in cc)) c.in-None.ensures
    c.shown.ensures.idle
