use Rattle.std.proofs.Common.{◌++◌, sym, ap, ◌∙◌, subst, false, replicate}
use Rattle.std.proofs.lemmas.List.{with_items_is}
use Rattle.count_machine_model.specs.ReadyCode.ReadyModules.{IsClosed}
use Rattle.count_machine_layouts.proofs.ReachedFunctions.Closing.{deinits_inside, found_closed, names_inside}
use Rattle.count_machine_layouts.proofs.ReachedFunctions.Reaching.{none_marked}
use Rattle.count_machine_layouts.proofs.reached_functions.reached.reached_from.Goals as goal

pub mark_reached-requires-clause-none : goal.mark_reached-requires-clause-none
mark_reached-requires-clause-none c =
    none_marked c.len-count.result c.as_mut_slice.result.now
    (c.as_mut_slice.ensures.value ∙ c.in_ok-push_times.ensures ∙ ap (λ xs. xs ++ replicate c.len-count.result false) c.in_ok-reached.ensures.items)

pub mark_reached-requires-clause-names : goal.mark_reached-requires-clause-names
mark_reached-requires-clause-names c = names_inside c.args.m.now c.requires.runnable

pub mark_reached-requires-clause-deinits : goal.mark_reached-requires-clause-deinits
mark_reached-requires-clause-deinits c = deinits_inside c.args.m.now c.requires.runnable c.args.classes.now c.requires.classes

pub returns-clause-closed : goal.returns-clause-closed
returns-clause-closed c =
    let m = c.args.m.now in
    let marks = c.mark_reached.new.reached in
    subst (IsClosed m) (sym (with_items_is c.push_times.new.table marks (c.mark_reached.auto.reached ∙ c.as_mut_slice.ensures.len)))
    (found_closed m c.args.classes.now c.args.entry marks c.requires.classes c.in_ok-mark_reached.ensures)
