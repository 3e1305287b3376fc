use Rattle.system.specs.Files.{kept_header}
use Rattle.system.proofs.Chains.{target_no, target_yes}
use Rattle.system.proofs.bodies.read_target.Goals as goal

pub returns-in-Some-clause-reads : goal.returns-in-Some-clause-reads
returns-in-Some-clause-reads c =
    let x = c.in-Some.ensures.lookup in
    (target_yes kept_header c.args.headers.now c.args.cursor.now.bytes.now c.args.cursor.now.at c.in_ok-index.index c.field.new.self.at c.in_ok-index.ensures.reads.0 c.in-Some.header.now x.3.0 x.1, c.in_ok-index.ensures.reads.1)

pub returns-in-None-clause-reads : goal.returns-in-None-clause-reads
returns-in-None-clause-reads c =
    (target_no kept_header c.args.headers.now c.args.cursor.now.bytes.now c.args.cursor.now.at c.in_ok-index.index c.field.new.self.at c.in_ok-index.ensures.reads.0 c.in-None.ensures.lookup.3, c.in_ok-index.ensures.reads.1)
