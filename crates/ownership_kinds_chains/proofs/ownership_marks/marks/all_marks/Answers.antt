use Rattle.std.proofs.Common.{◌≡◌, ◌+◌, ◌<◌, List, [], ◌∷◌, ◌++◌, length, sym, ap, ◌∙◌, Option, arith}
use Rattle.std.specs.Option.{option_map_or}
use Rattle.std.proofs.lemmas.Option.{slice_get_within}
use Rattle.sil_cfg.specs.Layout.{item_at}
use Rattle.sil_cfg.specs.declared.item.Item.{Item}
use Rattle.number_tables.proofs.PathLists.Items.{count_pushed, list_one_more}
use Rattle.ownership_kinds_chains.specs.OwnershipChains.Facts.{told_at}
use Rattle.ownership_kinds_chains.specs.OwnershipMarks.Known.{marks_in}
use Rattle.ownership_kinds_chains.specs.OwnershipMarks.Marks.{marks_of}
use Rattle.ownership_kinds_chains.specs.declared.ownership_marks.mark.Mark.{Mark}
use Rattle.ownership_kinds_chains.proofs.ownership_marks.marks.all_marks.Goals as goal

pub loop-i-preserved : goal.loop-i-preserved
loop-i-preserved c =
    let all : List (List Mark) = c.loop-i.all in
    let by : Option Item → List Mark = λ o. option_map_or (marks_of (told_at c.args.table.now) c.args.f.now) o [] in
    let here : List Mark = marks_of (told_at c.args.table.now) c.args.f.now c.item.result in
    let new : c.push_item.new.all ≡ all ++ here ∷ [] = c.in_ok-push_item.ensures in
    record {
      size = ap length new ∙ count_pushed all here ∙ ap (λ n. n + 1) c.loop-i.invariant.size;
      marks = λ k lt. ap (λ (v : List (List Mark)). marks_in v k) new
          ∙ list_one_more (λ n. by (item_at c.args.g.now n)) all here c.loop-i.i c.loop-i.invariant.size (sym (ap by c.item.ensures)) c.loop-i.invariant.marks k lt;
    }

pub returns-clause-marks : goal.returns-clause-marks
returns-clause-marks c = λ i item e.
    let within : i < length c.args.g.now.kinds = slice_get_within c.args.g.now.kinds i item e in
    c.loop-i.invariant.marks i (omega arith) ∙ ap (λ o. option_map_or (marks_of (told_at c.args.table.now) c.args.f.now) o []) e
