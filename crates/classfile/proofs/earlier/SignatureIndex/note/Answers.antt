use Rattle.std.proofs.Common.{◌≡◌, not, Some, ap, ◌∙◌}
use Rattle.std.specs.BTreeSet.{contains}
use Rattle.std.proofs.Math.Bool.{not-not}
use Rattle.classfile.specs.reading.Members.{is_declared}
use Rattle.classfile.specs.reading.Earlier.{find_utf8, first_of, Grows, pair_cmp}
use Rattle.classfile.proofs.EarlierMemberLemmas.{asked_stays, firsts_stay, declared_by_firsts, finds_one_more}
use Rattle.classfile.proofs.earlier.SignatureIndex.note.Goals as goal

pub returns-clause-value : goal.returns-clause-value
returns-clause-value c = λ members finds.
    let pool = c.args.pool.now in
    let old = c.args.self.now.firsts.items in
    let new = c.first_at-2.new.firsts.items in
    let a = c.in_ok-name.name in
    let b = c.in_ok-descriptor.descriptor in
    let grows : Grows old new = λ i n e. c.in_ok-descriptor.ensures.grows i n (c.in_ok-name.ensures.grows i n e) in
    let name : first_of new c.args.name ≡ Some a =
    c.in_ok-descriptor.ensures.grows c.args.name a c.in_ok-name.ensures.first in
    let asked = asked_stays old new members grows finds.asked in
    let found : contains pair_cmp c.args.self.now.pairs (a, b) ≡ is_declared pool c.args.name c.args.descriptor
    members =
    finds.each a b ∙ firsts_stay old new a b members grows finds.asked
    ∙ declared_by_firsts pool new (find_utf8 c.first_at-2.new.by_utf8) c.args.name c.args.descriptor a b members
    c.in_ok-descriptor.ensures.firsts asked name c.in_ok-descriptor.ensures.first in
    ap not c.in_ok-insert.ensures.added ∙ not-not (contains pair_cmp c.args.self.now.pairs (a, b)) ∙ found

pub returns-clause-finds : goal.returns-clause-finds
returns-clause-finds c = λ members m finds same_name same_descriptor.
    let old = c.args.self.now.firsts.items in
    let new = c.first_at-2.new.firsts.items in
    let a = c.in_ok-name.name in
    let b = c.in_ok-descriptor.descriptor in
    let grows : Grows old new = λ i n e. c.in_ok-descriptor.ensures.grows i n (c.in_ok-name.ensures.grows i n e) in
    let name : first_of new m.name ≡ Some a =
    rw same_name (c.in_ok-descriptor.ensures.grows c.args.name a c.in_ok-name.ensures.first) in
    let descriptor : first_of new m.descriptor ≡ Some b = rw same_descriptor c.in_ok-descriptor.ensures.first in
    finds_one_more c.args.pool.now old new c.args.self.now.by_utf8 c.first_at-2.new.by_utf8 c.args.self.now.pairs
    c.insert.new.self
    members m a b
    finds c.in_ok-descriptor.ensures.firsts grows name descriptor c.in_ok-insert.ensures.updates
