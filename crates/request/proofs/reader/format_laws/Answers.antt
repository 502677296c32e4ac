use Rattle.request.proofs.Asking.{read_asks}
use Rattle.request.proofs.Joining.{lines_join, lines_lined, lines_alone, words_join, words_alone}
use Rattle.request.proofs.Refusing.{read_refused}
use Rattle.request.proofs.Spelling.{reads_back, asks_read}
use Rattle.request.proofs.Values.{value_push, value_plain, zeros_lead}
use Rattle.request.proofs.reader.format_laws.Goals as goal

pub returns : goal.returns
returns c =
    record {
      reads_back = reads_back;
      lines_join = lines_join;
      lines_lined = lines_lined;
      lines_alone = lines_alone;
      words_join = words_join;
      words_alone = words_alone;
      value_push = value_push 0;
      value_plain = value_plain;
      zeros_lead = zeros_lead;
      asks_read = asks_read;
      read_asks = read_asks;
      read_refused = read_refused;
    }
