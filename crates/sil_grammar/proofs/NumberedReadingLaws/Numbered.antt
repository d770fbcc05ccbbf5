-- What is written without a fault is in numbered form.
use Rattle.sil_grammar.specs.NumberedReadingLaws.inner.Laws.{AreWrittenNumbered}
use Rattle.sil_grammar.proofs.NumberedReadingLaws.FieldLemmas.{read_fields, read_functions, read_literals, read_names, read_parts, read_types}
use Rattle.sil_grammar.proofs.NumberedReadingLaws.FaultlessParts.{IsGoodModule}
use Rattle.sil_grammar.proofs.NumberedReadingLaws.LimitLemmas.{read_limits}
use Rattle.sil_grammar.proofs.NumberedReadingLaws.ModuleLemmas.{good_written}
use Rattle.sil_grammar.proofs.NumberedReadingLaws.OnceLemmas.{read_once}
use Rattle.sil_grammar.proofs.NumberedReadingLaws.UsedLemmas.{read_numbering}

pub written_numbered : AreWrittenNumbered
written_numbered classes lexemes steps w h =
    let g : IsGoodModule w = good_written classes lexemes steps w h in
    record {
      numbering = read_numbering w g h.names;
      parts = read_parts w g;
      literals = read_literals w g;
      fields = read_fields w g;
      names = read_names w g;
      once = read_once w h.names;
      types = read_types w g;
      functions = read_functions w g;
      limits = read_limits w g;
    }
