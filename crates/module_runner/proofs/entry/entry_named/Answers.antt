-- The entry function, by its place.
use Rattle.std.proofs.Common.{◌∙◌, ap, get_or, position, sym}
use Rattle.module_runner.specs.inner.Entries.{is_entry}
use Rattle.module_runner.proofs.Entering.{named_at, none_named}
use Rattle.module_runner.proofs.entry.entry_named.Goals as goal

pub returns-in_err-place : goal.returns-in_err-place
returns-in_err-place c =
    let all = c.as_slice-functions.ensures in
    rw c.from_residual.ensures
    (none_named c.args.m.now c.args.name.now (ap (position (is_entry c.args.name.now)) (sym all) ∙ sym c.place_named.ensures ∙ c.in_err-place.was))

pub returns : goal.returns
returns c =
    let all = c.as_slice-functions.ensures in
    named_at c.args.m.now c.args.name.now (record { 0 = c.in_ok-place.place }) c.index-functions-place.result
    (ap (position (is_entry c.args.name.now)) (sym all) ∙ sym c.place_named.ensures ∙ c.in_ok-place.was)
    (c.index-functions-place.is ∙ ap (λ fs. get_or fs c.in_ok-place.place c.index-functions-place.result) all)
