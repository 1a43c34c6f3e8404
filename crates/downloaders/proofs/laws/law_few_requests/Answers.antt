use Rattle.downloaders.proofs.Growth.{reads_few}
use Rattle.downloaders.proofs.laws.law_few_requests.Goals as goal

pub returns : goal.returns
returns c direct ends asks x = reads_few c.args.size c.args.chunk direct ends asks c.requires.most c.requires.some x
