use Rattle.std.proofs.Common.{◌∙◌, ap}
use Rattle.record_format.specs.PostFields.{post_read}
use Rattle.record_format.proofs.PostLemmas.{post_back}
use Rattle.record_format.proofs.post.post_of.Goals as goal

pub returns-clause-known : goal.returns-clause-known
returns-clause-known c = λ post rest fits is. c.read_post.ensures ∙ ap post_read is ∙ post_back post rest fits
