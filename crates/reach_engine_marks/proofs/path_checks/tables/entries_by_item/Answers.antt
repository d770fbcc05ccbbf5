use Rattle.std.proofs.Common.{◌≡◌, ◌+◌, ℕ, List, [], ◌∷◌, ◌++◌, length, ap, ◌∙◌, arith}
use Rattle.std.proofs.lemmas.Option.{slice_get_within}
use Rattle.sil_cfg.specs.declared.item.Item.{Item}
use Rattle.number_tables.specs.PathLists.inner.Lists.{list_at}
use Rattle.number_tables.proofs.PathLists.Items.{count_pushed}
use Rattle.reach_engine_marks.specs.declared.path_checks.entry.Entry as entry
use Rattle.reach_engine_marks.proofs.PathChecks.TablesMade.{one_more}
use Rattle.reach_engine_marks.proofs.path_checks.tables.entries_by_item.Goals as goal

pub loop-i-preserved : goal.loop-i-preserved
loop-i-preserved g c =
    let entries : ℕ → Item → List entry.Entry = g.T.ItemTable.entries_at c.args.table.now in
    let here : List entry.Entry = entries c.loop-i.i c.item.result in
    let new : c.push_item.new.all ≡ c.loop-i.all ++ here ∷ [] = c.in_ok-push_item.ensures in
    record {
      size = ap length new ∙ count_pushed c.loop-i.all here ∙ ap (λ n. n + 1) c.loop-i.invariant.size;
      entries = λ n item lt is. ap (λ (v : List (List entry.Entry)). list_at v n) new
          ∙ one_more c.args.g.now entries c.loop-i.all c.loop-i.i c.item.result c.loop-i.invariant.size c.item.ensures c.loop-i.invariant.entries n item lt is;
    }

pub returns-clause-entries : goal.returns-clause-entries
returns-clause-entries g c = λ n item is. c.loop-i.invariant.entries n item (let within = slice_get_within c.args.g.now.kinds n item is in omega arith) is
