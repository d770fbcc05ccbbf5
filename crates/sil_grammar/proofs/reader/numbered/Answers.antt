-- For `numbered`: the name is the first that is wrong in what the text writes.
use Rattle.std.proofs.Common.{◌≡◌, Some, subst, sym}
use Rattle.sil_grammar_names.specs.NameScopes.NameFaults.{name_fault}
use Rattle.sil_grammar.specs.Refusals.{IsRefusalOf, misnamed, exhausted}
use Rattle.sil_grammar.proofs.ReadLemmas.{misnamed_spells_none}
use Rattle.sil_grammar.proofs.reader.numbered.Goals as goal

pub returns-in-Err-Name-clause-refused : goal.returns-in-Err-Name-clause-refused
returns-in-Err-Name-clause-refused c text spells =
    let fault = c.in-Err-Name.fault in
    let wrong : name_fault c.args.written ≡ Some fault = rw c.in-Err-Name.field-0-is at c.in-Err-Name.ensures.refused in
    subst (IsRefusalOf text) (sym c.refusal_of_fault.ensures)
    (misnamed fault (misnamed_spells_none text c.args.written fault spells wrong) (record { written = c.args.written; spells = spells; first = wrong }))

pub returns-in-Err-Memory-clause-refused : goal.returns-in-Err-Memory-clause-refused
returns-in-Err-Memory-clause-refused c text spells = exhausted
