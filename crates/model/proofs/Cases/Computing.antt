-- One name for all definitions that compute: to unfold it is to unfold what its line names.
use Rattle.model.specs.Number.{groups, number, group_bytes, number_bytes}
use Rattle.model.specs.Field.{code_size, code, distance, nearest_step, offset_byte}
use Rattle.model.specs.Sector.{direction, turned, turned_by, in_first, quadrant, within, squared, half, octant, sector_of, sector}
use Rattle.model.specs.Map.{field, lon_code, lat_code, same_codes, among, clash, fitting, all_fitting, ended, read_ban, decode_bans, read_steps, read_line, decode_lines, read_node, decode_nodes, decode}
use Rattle.model.specs.Difference.{difference, moved, brought, lon_difference, lon_sum, signed, differences, stands_at}
use Rattle.model.specs.Lines.{line_at, node_at, turn_among, banned, total, lowest, first_of, last_of, leaving, arriving}
use Rattle.model.specs.Stretch.{unknown, some_pair, apart, skip, remaining, check_stretch}
use Rattle.model.specs.Reference.{bytes2, bytes3, byte_p, byte_q, flag, byte_r, point_bytes, offset_bytes, bytes_of, at2, at3, attributes, point_at, points_at, positive, negative, offset_at, point_count, reference_at, spare_bits, flags, parse}
use Rattle.model.specs.Reading.{joined, banned_meeting}
use Rattle.model.specs.Choice.{from_node, to_node, arrival_of, leg_of, first_leg, last_leg, point_of, points_of, offset_of, reference_of, stretch_bytes}
use Rattle.model.specs.LegTests.{legs_before, turn, leg_count, tests_made}
use Rattle.model.specs.Refusal.{number_of, place_of, refusal_of}
use Rattle.model.specs.Locate.{seek, leg_first, arrival_before, legs_from, has_codes, locate}
use Rattle.model.specs.Work.{cleared, placed}
use Rattle.model.specs.Call.{lines_after, bytes_after}
use Rattle.model.specs.Text.{digits, decimal, numbered, each, acceptance, refusal, text, told}
use Rattle.model.specs.Host.{words, word_bytes, host_stretch, host_room, host_read, host_written, host_lines_after, host_bytes_after, host_point, host_point_lines_after, host_point_written}
use Rattle.model.specs.PointAlong.{point_along_bytes, point_along_at, parse_point, line_reference, along_of, given_bytes, check_point, point_lines_after, point_bytes_after}

unfoldable pub computing : Unit {0}
unfolding
    groups number group_bytes number_bytes code_size code distance nearest_step offset_byte direction turned turned_by in_first quadrant within squared half octant sector_of sector field lon_code lat_code same_codes among clash fitting all_fitting ended read_ban decode_bans read_steps read_line
    decode_lines read_node decode_nodes decode difference moved brought lon_difference lon_sum signed differences stands_at line_at node_at turn_among banned total lowest first_of last_of leaving arriving
    unknown some_pair apart skip remaining check_stretch bytes2 bytes3 byte_p byte_q flag byte_r point_bytes offset_bytes bytes_of at2 at3 attributes point_at
    points_at positive negative offset_at point_count reference_at spare_bits flags parse joined banned_meeting from_node to_node arrival_of leg_of first_leg last_leg
    point_of points_of offset_of reference_of stretch_bytes legs_before turn leg_count tests_made number_of place_of refusal_of seek leg_first arrival_before legs_from has_codes locate cleared placed
    lines_after bytes_after digits decimal numbered each acceptance refusal text told words word_bytes host_stretch host_room host_read host_written host_lines_after host_bytes_after host_point host_point_lines_after host_point_written
    point_along_bytes point_along_at parse_point line_reference along_of given_bytes check_point point_lines_after point_bytes_after
computing = tt
