use Rattle.std.proofs.Common.{◌≡◌, OnOk, ap, subst, sym, ◌∙◌}
use Rattle.sil_grammar_names.specs.NameScopes.inner.Symbols.{Symbols, with_kept, with_name}
use Rattle.sil_grammar_names.proofs.NameScopes.SymbolLemmas.{added, kept, with_entries}
use Rattle.sil_grammar_names.proofs.name_scopes.symbol_table.SymbolTable.add.Goals as goal

pub returns-in-None : goal.returns-in-None
returns-in-None c =
    let old = c.self.inside in
    let token = c.args.token.now in
    let t : Symbols = record { entries = old.numbers.entries; count = old.count; twice = old.twice } in
    let put = rw c.in_ok-again.ensures at c.in_ok-insert.ensures.entries in
    let found = rw c.in_ok-again.ensures at c.in_ok-insert.ensures.old in
    ap (with_entries t) put
    ∙ added t token c.args.number (sym found ∙ c.in-None.is)
    ∙ ap (λ s. with_name s token c.args.number) c.self.view_is

pub returns-in-Some : goal.returns-in-Some
returns-in-Some c =
    let old = c.self.inside in
    let token = c.args.token.now in
    let t : Symbols = record { entries = old.numbers.entries; count = old.count; twice = old.twice } in
    let put = rw c.in_ok-again.ensures at c.in_ok-insert.ensures.entries in
    let found = rw c.in_ok-again.ensures at c.in_ok-insert.ensures.old in
    let is : with_kept (with_entries t c.insert.new.self.entries) token c.in-Some.before ≡ with_name c.args.self.now token c.args.number =
    ap (λ entries. with_kept (with_entries t entries) token c.in-Some.before) put
    ∙ kept t token c.args.number c.in-Some.before (sym found ∙ c.in-Some.is)
    ∙ ap (λ s. with_name s token c.args.number) c.self.view_is
    in
    subst (λ s. OnOk c.keep.result (c.keep.new.self ≡ s)) is c.keep.ensures
