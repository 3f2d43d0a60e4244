use Rattle.partition_words.proofs.Shapes.{possible_in_range}
use Rattle.partition_words.proofs.plain.PlainWordsOwnerWords.shape.Goals as goal

pub returns-clause-valid : goal.returns-clause-valid
returns-clause-valid c = possible_in_range c.args.self.now.shape c.args.self.now.valid
