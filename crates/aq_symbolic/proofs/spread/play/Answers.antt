use Rattle.std.proofs.Common.{◌≡◌, [], drop, arith}
use Rattle.std.proofs.Math.ListN.{drop_of_length-le}
use Rattle.aq_store.proofs.StopLemmas.{passed_on}
use Rattle.aq_symbolic.proofs.CallLemmas.{next_plays, next_uncut}
use Rattle.aq_symbolic.proofs.LeadLemmas.{leads_next, leads_out, leads_start, stop_next}
use Rattle.aq_symbolic.proofs.StockLemmas.{stock_none}
use Rattle.aq_symbolic.proofs.StopLemmas.{keeps_none, keeps_then}
use Rattle.aq_symbolic.proofs.spread.play.Goals as goal

pub loop-stmt-init : goal.loop-stmt-init
loop-stmt-init g c = record {
  keeps = keeps_none c.args.store.now c.args.steps.now c.requires.paid;
  leads = leads_start g.L.Label.parts g.L.Label.part_count c.args.body.now c.args.store.now c.args.steps.now c.args.worlds.items;
}

pub play_each-requires-clause-playable : goal.play_each-requires-clause-playable
play_each-requires-clause-playable g c =
    let i = c.loop-stmt.stmt-index in
    let body = c.args.body.now in
    let x = c.stmt-item.result in
    next_plays g.L.Label.parts g.L.Label.part_count body c.args.store.now c.loop-stmt.store c.args.steps.now c.loop-stmt.steps c.args.worlds.items i x (drop i body) c.loop-stmt.left.items c.loop-stmt-test.true c.stmt-item.is c.loop-stmt.invariant.leads c.requires.playable

pub play_each-requires-clause-uncut : goal.play_each-requires-clause-uncut
play_each-requires-clause-uncut g c =
    let x = c.stmt-item.result in
    next_uncut c.loop-stmt.stmt-index c.args.body.now x x c.loop-stmt-test.true c.stmt-item.is c.requires.uncut

pub play_each-requires-clause-stock : goal.play_each-requires-clause-stock
play_each-requires-clause-stock g c = stock_none g.L.Label.parts g.L.Label.part_count c.loop-stmt.store c.new-stock.result.entries.items c.new-stock.ensures

pub returns-in_err-left-clause-err : goal.returns-in_err-left-clause-err
returns-in_err-left-clause-err g c =
    passed_on _ c.from_residual.result c.in_err-left.field-0.0 c.from_residual.ensures
    (stop_next g.L.Label.parts g.L.Label.part_count c.args.body.now c.args.store.now c.loop-stmt.store c.args.steps.now c.loop-stmt.steps c.play_each.new.steps c.args.worlds.items c.loop-stmt.stmt-index c.stmt-item.result c.loop-stmt.left.items c.in_err-left.field-0.0
    c.loop-stmt-test.true c.stmt-item.is c.loop-stmt.invariant.keeps.limit c.loop-stmt.invariant.leads c.in_err-left.ensures.err)

pub loop-stmt-preserved : goal.loop-stmt-preserved
loop-stmt-preserved g c =
    record {
      keeps = keeps_then c.args.store.now c.loop-stmt.store c.play_each.new.store c.args.steps.now c.loop-stmt.steps c.play_each.new.steps c.loop-stmt.invariant.keeps c.play_each.ensures.keeps;
      leads = leads_next g.L.Label.parts g.L.Label.part_count c.args.body.now c.args.store.now c.loop-stmt.store c.play_each.new.store c.args.steps.now c.loop-stmt.steps c.play_each.new.steps c.args.worlds.items c.loop-stmt.stmt-index c.stmt-item.result c.loop-stmt.left.items c.in_ok-left.left.items
          c.loop-stmt-test.true c.stmt-item.is c.loop-stmt.invariant.leads c.in_ok-left.ensures.ok;
    }

pub returns-clause-ok : goal.returns-clause-ok
returns-clause-ok g c =
    let body = c.args.body.now in
    let none : drop c.loop-stmt.stmt-index body ≡ [] = drop_of_length-le body (omega (arith, c.loop-stmt-test.false)) in
    leads_out g.L.Label.parts g.L.Label.part_count body c.args.store.now c.loop-stmt.store c.args.steps.now c.loop-stmt.steps c.args.worlds.items c.loop-stmt.left.items (drop c.loop-stmt.stmt-index body) none c.loop-stmt.invariant.leads
