use Rattle.text_clean.proofs.text.Taking.{ended_chars}
use Rattle.text_clean.proofs.text.Text.close.Goals as goal

pub put_lead-after_lead-requires-clause-lead_value : goal.put_lead-after_lead-requires-clause-lead_value
put_lead-after_lead-requires-clause-lead_value c = (ended_chars c.ending-ending.result c.args.self.input c.args.eof c.ending-ending.ensures.chars).0

pub put_lead-after_mark-requires-clause-lead_value : goal.put_lead-after_mark-requires-clause-lead_value
put_lead-after_mark-requires-clause-lead_value c = (ended_chars c.ending-ending.result c.args.self.input c.args.eof c.ending-ending.ensures.chars).1

pub put_lead-at-requires-clause-lead_value : goal.put_lead-at-requires-clause-lead_value
put_lead-at-requires-clause-lead_value c = (ended_chars c.ending-ending.result c.args.self.input c.args.eof c.ending-ending.ensures.chars).2
