use Rattle.std.proofs.Common.{◌≡◌, length, refl, rules}
use Rattle.theorems.proofs.Following.{read_shaped}
use Rattle.passes.proofs.Learns.{plan_knowing}
use Rattle.passes.proofs.constants.plan_constants.Goals as goal

pub returns-in_err-knowledge : goal.returns-in_err-knowledge
returns-in_err-knowledge g c = λ s short out.
    let a = g.G.Algebra.meaning c.args.accepted.now.alg.now in
    let shaped = read_shaped a (g.met.G.Algebra.lawful c.args.accepted.now.alg.now) c.args.accepted.now.file.now s c.args.accepted.now.outline.now.end out.whole in
    absurd (c.in_err-knowledge.ensures s short out shaped)

pub returns : goal.returns
returns g c = λ s short out.
    let a = g.G.Algebra.meaning c.args.accepted.now.alg.now in
    let o = c.args.accepted.now.outline.now in
    let shaped = read_shaped a (g.met.G.Algebra.lawful c.args.accepted.now.alg.now) c.args.accepted.now.file.now s o.end out.whole in
    let T = c.in_ok-knowledge.knowledge in
    let long : length T ≡ 31 = search rules in
    plan_knowing a s c.args.accepted.now.file.now o out T _ long refl c.changes.ensures (c.in_ok-knowledge.ensures s short out shaped)
