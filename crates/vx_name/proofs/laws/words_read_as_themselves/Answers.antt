use Rattle.vx_name.specs.Words.{read_name, read_id, most_name_bytes, most_id_bytes}
use Rattle.vx_name.specs.declared.word.Alphabet.TheVariants as alphabet
use Rattle.vx_name.proofs.Spelling.{word_read, word_as_itself}
use Rattle.vx_name.proofs.laws.words_read_as_themselves.Goals as goal

pub returns-clause-name : goal.returns-clause-name
unfolding read_name
returns-clause-name c = word_read alphabet.Name most_name_bytes

pub returns-clause-name_again : goal.returns-clause-name_again
unfolding read_name
returns-clause-name_again c = word_as_itself alphabet.Name most_name_bytes

pub returns-clause-id : goal.returns-clause-id
unfolding read_id
returns-clause-id c = word_read alphabet.Id most_id_bytes

pub returns-clause-id_again : goal.returns-clause-id_again
unfolding read_id
returns-clause-id_again c = word_as_itself alphabet.Id most_id_bytes
