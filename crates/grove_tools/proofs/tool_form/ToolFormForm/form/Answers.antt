use Rattle.grove_tools.proofs.tool_form.ToolFormForm.form.Goals as goal

pub form_relay-requires-sync-R : goal.form_relay-requires-sync-R
form_relay-requires-sync-R g c = λ lifetimes outlive. record { shared = c.requires.asked.1.1.shared }
