-- One more piece, written or not.
use Rattle.std.proofs.Common.{[]}
use Rattle.rr_eval.specs.Counted.{counted}
use Rattle.ractor.proofs.Telling.{one_more, one_short}
use Rattle.ractor.proofs.tell.put_all.Goals as goal

pub returns-then-not-put : goal.returns-then-not-put
returns-then-not-put g c =
    let seen = counted g.E.Write.contents in
    one_short (λ p. p.now) c.args.pieces.now c.loop-piece.piece-index (record { ref_ptr = (0, 0); now = [] }) (seen c.args.errors.now) (seen c.loop-piece.errors) (seen c.put.new.self) c.loop-piece-test.true c.loop-piece.invariant c.if-not-put.ensures

pub loop-piece-preserved : goal.loop-piece-preserved
loop-piece-preserved g c =
    let seen = counted g.E.Write.contents in
    one_more (λ p. p.now) c.args.pieces.now c.loop-piece.piece-index (record { ref_ptr = (0, 0); now = [] }) (seen c.args.errors.now) (seen c.loop-piece.errors) (seen c.put.new.self) c.loop-piece-test.true c.loop-piece.invariant c.if-not-put.ensures
