use Rattle.joint_laws.proofs.object_lemmas.MemberValues.{members_are_json}
use Rattle.joint_laws.proofs.objects.members_are_json.Goals as goal

pub returns : goal.returns
returns c = members_are_json
