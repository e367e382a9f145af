use Rattle.judy_model.proofs.lemmas.forms.BucketLemmas.{form_of-last_byte, form_of-buckets}
use Rattle.judy_model.proofs.laws.shapes.shared_bytes_are_skipped.Goals as goal

pub returns : goal.returns
returns c = record { last_byte = form_of-last_byte; before = form_of-buckets }
