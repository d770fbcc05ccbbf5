use Rattle.std.proofs.Common.{◌≡◌, ℕ, ◌≤◌, List, ◌++◌, length, take, ap, ◌∙◌, arith}
use Rattle.std.proofs.lemmas.List.{length-take-le}
use Rattle.reach_engine.specs.inner.Bits.{bit_in}
use Rattle.reach_engine.specs.inner.Columns.{cell}
use Rattle.reach_engine_marks.proofs.KeptSubjects.Rows.{rows_cut}
use Rattle.reach_engine_marks.proofs.kept_subjects.blocks.rows_of.Goals as goal

pub returns-clause-rows : goal.returns-clause-rows
returns-clause-rows c =
    let width : ℕ = c.args.width in
    let off : List ℕ = c.row-off.result.now in
    let on : List ℕ = c.row-on.result.now in
    let broken : List ℕ = c.row-broken.result.now in
    let few : width ≤ c.args.map.now.width = c.requires.width in
    let off_size : length off ≡ c.args.map.now.width = c.row-off.ensures.length in
    let on_size : length on ≡ c.args.map.now.width = c.row-on.ensures.length in
    let broken_size : length broken ≡ c.args.map.now.width = c.row-broken.ensures.length in
    let whole : c.add_words-3.new.bundle.items ≡ (take width off ++ take width on) ++ take width broken =
    c.in_ok-add_words-3.ensures ∙ ap (λ xs. xs ++ take width broken)
    (c.in_ok-add_words-2.ensures ∙ ap (λ xs. xs ++ take width on) (c.in_ok-add_words.ensures ∙ ap (λ xs. xs ++ take width off) c.new-bundle.ensures.items)) in
    λ s u ls lt. ap (λ xs. bit_in xs (cell width s u)) whole
    ∙ rows_cut c.args.map.now.words off on broken c.args.map.now.width width c.args.block.0 c.args.map.now.states few c.requires.states
    (length-take-le width off (omega arith)) (length-take-le width on (omega arith)) (length-take-le width broken (omega arith))
    c.row-off.ensures.bits c.row-on.ensures.bits c.row-broken.ensures.bits s u ls lt
