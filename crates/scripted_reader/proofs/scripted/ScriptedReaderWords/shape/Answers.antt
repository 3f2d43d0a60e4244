use Rattle.partition_words.proofs.Shapes.{possible_in_range}
use Rattle.scripted_reader.proofs.scripted.ScriptedReaderWords.shape.Goals as goal

pub returns-clause-valid : goal.returns-clause-valid
returns-clause-valid c = possible_in_range c.args.self.now.stage.shape c.args.self.now.valid
