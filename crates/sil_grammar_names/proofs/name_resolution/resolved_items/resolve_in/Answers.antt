use Rattle.sil_grammar_names.specs.NameScopes.Names.{label_of}
use Rattle.sil_grammar_names.proofs.NameResolution.FaultLemmas.{body_done}
use Rattle.sil_grammar_names.proofs.NameResolution.NumberLemmas.{finds_each, finds_values}
use Rattle.sil_grammar_names.proofs.name_resolution.resolved_items.resolve_in.Goals as goal

pub resolve_blocks-requires : goal.resolve_blocks-requires
resolve_blocks-requires g c =
    let blocks = c.args.blocks in
    record {
      functions = c.requires.0;
      blocks = rw c.requires.1.0 (finds_each label_of blocks);
      values = rw c.requires.1.1 (finds_values blocks);
    }

pub returns-clause-faults : goal.returns-clause-faults
returns-clause-faults g c =
    let found = rw (c.twice.ensures, c.twice-2.ensures, c.requires.1.0, c.requires.1.1) at c.in_ok-resolved.ensures.faults in
    rw (c.earlier-faults.ensures, c.earlier.ensures) (body_done c.args.tables.functions.now c.args.blocks c.args.faults.now c.resolve_blocks.new.faults found)
